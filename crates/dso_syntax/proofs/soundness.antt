-- What is read from token to token is a form of the grammar.
pub mod SoundSteps
pub mod SoundExpressions
pub mod SoundStatements
pub mod SoundPrograms
