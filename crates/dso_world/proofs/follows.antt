-- Which entries may follow a lawful journal, and that it stays lawful.
pub mod Clients
pub mod Server
pub mod Rejoins
pub mod Lawful
