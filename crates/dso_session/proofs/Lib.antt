pub mod Sent
pub mod GivenUp
pub mod Left
