pub mod Names
pub mod Paths
pub mod Swept
pub mod Added
pub mod Places
