-- Which triggers are due, by one look at the first that was not made yet.
pub mod Reached
