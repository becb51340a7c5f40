-- What stands in an expression, a statement and a block, form by form, and lists that have all of it.
pub mod Listing
pub mod Trees
pub mod Additions
pub mod ListedSteps
