pub mod Reading
pub mod Listings
