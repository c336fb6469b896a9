pub mod Reading
pub mod Matched
pub mod RowPins
