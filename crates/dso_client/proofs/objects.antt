pub mod Own
pub mod Found
pub mod SortedSets
pub mod KnownObjects
pub mod Blank
pub mod HeldObjects
pub mod NamedByThreads
