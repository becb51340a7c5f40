pub mod Ids
pub mod Objects
pub mod Locks
pub mod Records
pub mod Losses
