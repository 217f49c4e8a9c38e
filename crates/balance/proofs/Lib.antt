pub mod Track
pub mod Round
pub mod Names
pub mod Sequences
pub mod Cuts
pub mod Theorem
