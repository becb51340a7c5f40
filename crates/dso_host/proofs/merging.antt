-- The logs of all nodes brought together: that their journal is lawful, and that a sort makes it.
pub mod Fronts
pub mod Gathered
pub mod Lawful
pub mod Order
pub mod Posting
