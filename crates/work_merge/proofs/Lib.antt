pub mod Signed
pub mod EntryLaws
pub mod Tested
