pub mod Sentence
pub mod Grammar
pub mod Reading
pub mod Rows
pub mod Noted
pub mod Writing
pub mod Same
