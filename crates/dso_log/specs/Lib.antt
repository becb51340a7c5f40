pub mod Logs
pub mod Merged
