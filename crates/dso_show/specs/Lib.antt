pub mod Published
pub mod Shown
