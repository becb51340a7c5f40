-- A thread of sound code keeps to a protocol: what may be asked at each point of its run.
pub mod Protocol
pub mod Parts
pub mod Requests
pub mod Locks
pub mod Maps
pub mod Calls
pub mod Expressions
pub mod Statements
pub mod Threads
pub mod MapWalks
