pub mod Balance
pub mod Examples
pub mod RowEnds
