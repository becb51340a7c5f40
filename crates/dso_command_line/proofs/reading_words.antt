-- The words behind the program's name: what is read of them is what they say.
pub mod WordParts
pub mod WordSteps
pub mod GivesRead
pub mod ReadGives
pub mod Asking
