pub mod Moving
pub mod Places
pub mod Padding
pub mod Base
pub mod BaseItems
pub mod BaseWriting
