-- How a client's cell goes on standing for its log.
pub mod Bounds
pub mod Cells
pub mod Idle
pub mod SentCounts
pub mod Steps
