pub mod Entering
pub mod Looks
pub mod Coinciding
pub mod Numbered
pub mod Kept
pub mod Counted
pub mod Pairs
