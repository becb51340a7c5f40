-- The numbers of locks, and that one entry of a configuration is the last that matches.
pub mod LockNumbers
pub mod LastEntry
