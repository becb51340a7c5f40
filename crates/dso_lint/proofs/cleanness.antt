-- How the clean variables of a body get fewer, and that no choice is lost that keeps the rules.
pub mod CleanGrows
pub mod RowSteps
pub mod EachRow
pub mod FirstRows
pub mod ExposedSteps
pub mod Choices
pub mod Looks
