pub mod Insides
pub mod Seconds
pub mod Spelling
pub mod ByKind
pub mod RoundTrip
pub mod Shortest
