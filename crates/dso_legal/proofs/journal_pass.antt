-- The pass over a journal that computes its history.
pub mod EachEntry
pub mod OneEntry
pub mod Tables
pub mod WaiterTables
