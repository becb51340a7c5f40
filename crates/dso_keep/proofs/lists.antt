pub mod Each
pub mod News
pub mod Telling
