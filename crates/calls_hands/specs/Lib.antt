pub mod Refusals
pub mod Entries
pub mod Calls
