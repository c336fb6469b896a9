pub mod TableRead
pub mod SideWritten
