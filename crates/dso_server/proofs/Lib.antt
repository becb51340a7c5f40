pub mod lists
pub mod standing
pub mod answered
pub mod records
pub mod due
pub mod Collected
