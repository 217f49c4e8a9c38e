pub mod Reading
pub mod Coinciding
