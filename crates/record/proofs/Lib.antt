pub mod Headings
pub mod Outcomes
