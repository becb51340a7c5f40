-- What a state has that a legal history leads to: its objects, and values that name only what is there.
pub mod Chosen
pub mod StateObjects
pub mod StateValues
pub mod KnownNames
pub mod ToldNames
pub mod ValuesOfHistory
pub mod WholeState
