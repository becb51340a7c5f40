-- Batches of ids, and objects made once.
pub mod Batches
pub mod GivenOnce
pub mod OfBatches
pub mod Making
pub mod MadeOnce
