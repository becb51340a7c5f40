pub mod Known
pub mod leases
pub mod threads
pub mod server
pub mod garbage
