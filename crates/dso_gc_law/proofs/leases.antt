-- Leases: which are given back, which are asked for, and for whom the server serves.
pub mod LocksNamed
pub mod Touched
pub mod Returned
pub mod InJournals
pub mod Asking
pub mod AskedInRuns
pub mod Shown
pub mod ShownLocks
pub mod Wanted
pub mod Served
pub mod LossKnown
