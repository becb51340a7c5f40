-- Every form of the grammar is read from token to token, and as its tree; so tokens have one tree at most.
pub mod ReadSteps
pub mod ReadExpressions
pub mod ReadStatements
pub mod ReadPrograms
