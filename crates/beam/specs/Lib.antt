pub mod Validity
pub mod Settings
