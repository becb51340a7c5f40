-- What threads name, and what the plain state is to a thread.
pub mod Naming
pub mod Zero
pub mod Agrees
pub mod Acts
pub mod Guarding
