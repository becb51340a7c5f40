-- Clustered maps: each is one finite map, over the history that a journal commits.
pub mod Stays
pub mod Places
pub mod Asking
pub mod Opening
pub mod InCall
pub mod Entering
pub mod Blocks
pub mod Classes
pub mod Threads
pub mod OneMap
pub mod CommittedBlocks
pub mod RealPuts
pub mod MapLaw
