pub mod Laying
pub mod Rows
pub mod Going
pub mod Bits
pub mod Answering
pub mod Coinciding
