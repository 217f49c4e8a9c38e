pub mod Marks
pub mod Writes
pub mod Standing
pub mod Canvas
