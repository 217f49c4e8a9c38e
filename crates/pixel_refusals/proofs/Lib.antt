pub mod Entries
pub mod Looking
pub mod Coinciding
