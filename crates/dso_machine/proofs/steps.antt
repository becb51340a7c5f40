-- One step of the machine: what is about to be done and the continuation come to what they came to before it.
pub mod Requests
pub mod Steps
pub mod Goes
pub mod Replies
pub mod Maps
