pub mod Slots
pub mod Given
