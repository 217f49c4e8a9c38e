pub mod Taking
pub mod Sending
