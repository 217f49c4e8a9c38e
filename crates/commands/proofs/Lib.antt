pub mod Heads
pub mod Coinciding
pub mod Modes
