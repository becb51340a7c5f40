pub mod Letters
pub mod Clocks
pub mod Breaks
