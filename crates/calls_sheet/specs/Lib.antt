pub mod Lines
pub mod Sheet
pub mod Shown
pub mod Calls
