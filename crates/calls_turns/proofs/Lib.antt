pub mod Freed
pub mod Turns
