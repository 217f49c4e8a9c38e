pub mod Integers
pub mod Counts
pub mod Three
