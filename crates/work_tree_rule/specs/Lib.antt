pub mod Rule
pub mod Marks
