pub mod Runs
pub mod Count
