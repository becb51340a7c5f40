pub mod Keeping
pub mod OneList
