pub mod Kept
pub mod Coinciding
