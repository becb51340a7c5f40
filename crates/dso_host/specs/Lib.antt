pub mod Gathered
pub mod GoodMessages
pub mod HostStates
pub mod Hosts
pub mod Journals
pub mod Merged
pub mod OpenSlots
pub mod ProgramCells
