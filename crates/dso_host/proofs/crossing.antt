-- What crosses from one thread of the process to another.
pub mod Clients
pub mod Locked
pub mod Programs
pub mod Statements
pub mod Threads
pub mod Trees
