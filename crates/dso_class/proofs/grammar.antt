-- What holds of each tree of the grammar: its operators, how deep it nests, and what it assigns to.
pub mod Assignments
pub mod Fits
pub mod Operators
pub mod GoodTrees
