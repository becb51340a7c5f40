-- What the operators give: arithmetic in 64 bits, and the tests of the definitions.
pub mod Arithmetic
pub mod Tests
