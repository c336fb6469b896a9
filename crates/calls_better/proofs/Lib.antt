pub mod CountWith
pub mod Compared
