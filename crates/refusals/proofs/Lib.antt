pub mod Numbers
pub mod Rules
pub mod Cases
pub mod Coinciding
pub mod Many
pub mod Passing
pub mod Passed
pub mod Shut
