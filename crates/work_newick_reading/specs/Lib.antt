pub mod Text
pub mod Notes
pub mod Reads
pub mod Once
