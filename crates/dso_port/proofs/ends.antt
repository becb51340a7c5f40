-- What an end of a connection gives to a ring, and what it makes of a frame that it takes from one.
pub mod Given
pub mod Lists
pub mod Taken
