pub mod Packets
pub mod Kept
pub mod Whole
