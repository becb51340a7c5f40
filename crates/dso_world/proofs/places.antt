-- Where a slot stands among the slots, what its flags tell, and which client it is of.
pub mod Found
pub mod Marked
pub mod Computed
pub mod Tables
pub mod OwnSteps
pub mod Clients
pub mod Telling
pub mod Marking
