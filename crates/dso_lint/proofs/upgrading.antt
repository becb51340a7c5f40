-- Which methods take a lock at Write, and what may be taken from a block.
pub mod Begun
pub mod NamedTables
pub mod Writers
pub mod Sites
