pub mod Entries
pub mod Twice
pub mod Tables
pub mod TreeRule
