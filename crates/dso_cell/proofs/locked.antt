pub mod Turns
pub mod Ahead
