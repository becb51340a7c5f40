pub mod Environment
pub mod Giving
pub mod Memory
pub mod MemoryFile
pub mod SystemFile
