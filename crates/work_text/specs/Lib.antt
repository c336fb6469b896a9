pub mod Decimal
pub mod Lines
pub mod Puts
pub mod Numbers
