-- How the order of the graph's objects grows visit by visit, and what holds of the objects in it.
pub mod GoesOn
pub mod EntriesGrow
pub mod OrderGrows
pub mod ClosedOrder
pub mod OrderHolds
