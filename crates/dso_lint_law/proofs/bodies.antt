-- Bodies that keep the rules are safe.
pub mod Rules
pub mod Placed
pub mod Methods
pub mod Calls
pub mod Bodies
pub mod Statements
