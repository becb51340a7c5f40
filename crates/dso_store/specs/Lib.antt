pub mod Changes
pub mod Graph
pub mod Collecting
