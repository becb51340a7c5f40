-- What an entry that touches no topic of a reading leaves of it: each reading is the same after the entry.
pub mod Untouched
pub mod Locks
pub mod Holds
pub mod Objects
pub mod Ids
pub mod Settled
