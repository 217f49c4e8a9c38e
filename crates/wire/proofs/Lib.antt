pub mod Sendings
pub mod Writings
pub mod Dels
pub mod Feeds
