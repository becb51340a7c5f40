pub mod parts
pub mod bodies
pub mod threads
pub mod history
