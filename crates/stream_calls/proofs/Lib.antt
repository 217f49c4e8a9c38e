pub mod Items
pub mod Writing
