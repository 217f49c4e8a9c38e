pub mod RoundTrip
pub mod Shortest
pub mod Places
pub mod Room
pub mod Partition
pub mod Items
