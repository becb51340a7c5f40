-- Runs over stores, and stores that are shown: what their answers mean.
pub mod Taking
pub mod Meaning
pub mod Showing
pub mod KeptRecords
