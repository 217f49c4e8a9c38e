pub mod Pouring
pub mod Lists
pub mod Sizes
