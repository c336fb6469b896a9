pub mod Decimal
pub mod Written
pub mod Counted
pub mod Marks
pub mod Remains
pub mod LaidOut
