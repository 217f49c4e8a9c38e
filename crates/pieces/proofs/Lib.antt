pub mod Reading
pub mod Within
pub mod Calls
pub mod Whole
pub mod Coinciding
