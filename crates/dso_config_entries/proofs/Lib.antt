pub mod lists
pub mod locking
