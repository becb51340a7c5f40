-- What stands once a request was answered.
pub mod Ids
pub mod Objects
pub mod Leases
pub mod Lists
pub mod Holds
pub mod Entered
pub mod Counts
