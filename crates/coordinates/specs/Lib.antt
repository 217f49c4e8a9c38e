pub mod Coordinates
pub mod Remembering
