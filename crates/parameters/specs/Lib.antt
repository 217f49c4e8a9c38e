pub mod Entries
pub mod Shapes
pub mod Numbers
pub mod Looking
pub mod Behind
