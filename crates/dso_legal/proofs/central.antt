-- The central law: what stands after each entry, and what it comes to at the end.
pub mod AllHold
pub mod CentralLaw
pub mod ResolvedFollows
pub mod Finished
pub mod ThreadEnds
