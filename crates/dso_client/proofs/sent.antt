-- What stands once a record was sent.
pub mod Objects
pub mod Loops
pub mod Parts
