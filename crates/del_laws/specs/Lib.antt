pub mod Padding
pub mod Base
pub mod BaseItems
pub mod BaseWriting
