pub mod Pours
pub mod Digits
pub mod Listed
