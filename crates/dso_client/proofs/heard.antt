-- What stands once a message was taken.
pub mod Ids
pub mod Objects
pub mod Locks
pub mod Acks
pub mod Changes
pub mod EachChange
pub mod Leaves
pub mod Wakes
pub mod Parts
