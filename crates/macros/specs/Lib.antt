pub mod Store
pub mod Fronts
