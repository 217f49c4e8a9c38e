pub mod Decimals
pub mod Pouring
pub mod Lines
pub mod Pens
