pub mod Rows
pub mod Exchange
pub mod Once
