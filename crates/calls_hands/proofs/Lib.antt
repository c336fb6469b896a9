pub mod HandLists
pub mod TurnedRows
pub mod Handed
pub mod Narrowed
