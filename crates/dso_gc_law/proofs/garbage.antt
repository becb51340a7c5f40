-- The induction over the entries, from the rows, and the laws.
pub mod Rows
pub mod Paths
pub mod Said
pub mod Bare
pub mod Stays
pub mod Names
pub mod Edges
pub mod OneMore
pub mod Later
pub mod Laws
pub mod Lacking
pub mod Sweeping
