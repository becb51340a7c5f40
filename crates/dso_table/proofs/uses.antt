pub mod Orders
pub mod OrderCalls
pub mod Joining
