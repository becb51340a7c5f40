-- Threads of code that keeps the rules are safe.
pub mod Threads
