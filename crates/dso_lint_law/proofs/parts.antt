-- Parts of code that are safe.
pub mod Views
pub mod Parts
pub mod Locks
pub mod Entries
pub mod Accesses
pub mod Waits
pub mod Talks
pub mod Maps
