pub mod Expansion
pub mod Running
