pub mod Settling
pub mod Coinciding
