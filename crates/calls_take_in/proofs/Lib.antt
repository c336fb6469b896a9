pub mod Steps
pub mod Taken
