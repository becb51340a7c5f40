-- Clients with their cells and the server's ends of their connections.
pub mod Ends
