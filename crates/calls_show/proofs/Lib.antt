pub mod Shown
pub mod Outcomes
