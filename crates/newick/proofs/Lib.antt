pub mod Grammar
pub mod Rows
pub mod Noted
pub mod Written
