pub mod Records
pub mod Lending
