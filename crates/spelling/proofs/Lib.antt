pub mod Writing
pub mod Pouring
