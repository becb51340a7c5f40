-- Messages between a client and the server: what is in flight, and what was sent and taken.
pub mod Prefixes
