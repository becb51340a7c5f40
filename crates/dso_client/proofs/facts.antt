-- What the entries of a run keep.
pub mod Strangers
pub mod Settled
pub mod Apart
pub mod Counts
pub mod Once
pub mod All
