pub mod Letters
pub mod Fields
pub mod Refusals
pub mod Refused
pub mod Holds
pub mod Told
pub mod Fixes
pub mod Meaning
