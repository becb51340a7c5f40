-- Which leases are to be given back once a message was taken.
pub mod Rising
pub mod Parts
pub mod Leased
pub mod Touched
pub mod Returned
pub mod Took
pub mod SameLocks
pub mod AmongThreads
pub mod AfterActs
pub mod GivenBack
pub mod Sent
pub mod Settled
pub mod Marked
pub mod Slices
pub mod Again
