pub mod States
pub mod Slots
pub mod ObjectTables
pub mod Victims
pub mod Edges
