pub mod Sides
pub mod Rows
pub mod Shown
pub mod Apart
