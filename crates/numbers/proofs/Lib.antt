pub mod Reading
pub mod Ahead
pub mod Spelling
pub mod RoundTrip
pub mod Shortest
