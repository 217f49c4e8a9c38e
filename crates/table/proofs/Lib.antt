pub mod Rows
pub mod Coinciding
