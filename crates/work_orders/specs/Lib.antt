pub mod Between
pub mod Ends
