-- The names of locks, and roots.
pub mod LockNames
pub mod Roots
