pub mod Putting
pub mod Writing
pub mod Placing
pub mod Defines
pub mod Coinciding
