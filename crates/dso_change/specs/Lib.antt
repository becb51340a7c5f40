pub mod Hands
pub mod Events
pub mod Laws
