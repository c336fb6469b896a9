pub mod Refusals
pub mod Shapes
pub mod Calls
