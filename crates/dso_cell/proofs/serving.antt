-- How the server's cell goes on standing for its log.
pub mod Bounds
pub mod Cells
pub mod Due
pub mod Ends
pub mod Lines
pub mod Served
pub mod Steps
pub mod Told
pub mod Turns
