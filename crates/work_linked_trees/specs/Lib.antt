pub mod Memory
pub mod Sides
