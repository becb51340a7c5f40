pub mod Laws
pub mod Locks
pub mod Requests
pub mod Serving
pub mod LockRows
