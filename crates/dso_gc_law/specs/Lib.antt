pub mod Garbage
pub mod Lacking
