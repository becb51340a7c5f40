pub mod NthSet
pub mod Blocks
pub mod Named
pub mod Chosen
