pub mod Marks
pub mod Images
