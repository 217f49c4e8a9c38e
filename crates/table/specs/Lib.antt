pub mod Table
pub mod Keys
