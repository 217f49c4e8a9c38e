pub mod Stepping
pub mod Filling
pub mod Writings
pub mod RoundTrip
pub mod Back
