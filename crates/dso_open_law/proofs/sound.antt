-- That few topics are enough where waiters are known and copies are whole, as they are in a lawful journal of a sound
-- program.
pub mod Sizes
pub mod Waiters
pub mod Marked
pub mod FewTouched
