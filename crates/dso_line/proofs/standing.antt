-- How the end of a connection goes on standing for its log: behind what it sends, takes and gives.
pub mod Clients
pub mod Given
pub mod Logs
pub mod Posts
pub mod Servers
pub mod Taken
