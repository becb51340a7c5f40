-- What stands once a thread asked for what it lacks.
pub mod Missing
pub mod Objects
pub mod Locks
pub mod Parts
pub mod Step
