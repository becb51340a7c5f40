pub mod Garbage
pub mod Edges
