-- What is so of a sound program's threads.
pub mod Threads
-- How they are numbered.
pub mod Numbered
