pub mod Staying
pub mod Lending
