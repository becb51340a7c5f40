pub mod Requests
pub mod Sending
pub mod Serving
pub mod Names
pub mod Placing
pub mod Telling
pub mod Losing
pub mod Following
