pub mod Room
pub mod Rows
pub mod Shown
pub mod Asked
pub mod Ran
pub mod Saying
