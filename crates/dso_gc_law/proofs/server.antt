-- What the server's messages and bodies name after an entry, and what a client's copies do.
pub mod Bodies
pub mod Starts
pub mod Answers
pub mod Copies
pub mod Stored
pub mod Sends
