-- Good holds of sites, what is guarded by them, and that of a block by its statements.
pub mod Holding
pub mod Guards
pub mod Makings
pub mod Under
