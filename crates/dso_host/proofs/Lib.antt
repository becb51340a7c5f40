pub mod crossing
pub mod hosts
pub mod merging
pub mod programs
