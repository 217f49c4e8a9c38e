pub mod Bodies
pub mod Stretches
pub mod Walking
pub mod Entering
pub mod Answering
pub mod Coinciding
pub mod Remembering
