pub mod SideWritten
pub mod TextRead
pub mod Outcomes
