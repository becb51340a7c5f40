pub mod flight
pub mod Lists
pub mod client
pub mod server
pub mod Clients
pub mod core
pub mod runs
