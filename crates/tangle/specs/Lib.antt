pub mod Narrowed
pub mod ForC
pub mod Outcomes
pub mod RowsForC
