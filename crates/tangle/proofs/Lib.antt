pub mod Widened
pub mod Cases
pub mod Outcomes
pub mod RowsForC
