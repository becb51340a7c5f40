-- What expressions, statements and bodies mention, and what that leaves of the mentions before.
pub mod OnlyUses
pub mod OfClasses
pub mod Fine
pub mod TreeFolds
pub mod Single
pub mod OfExpressions
pub mod OfStatements
pub mod Meanings
