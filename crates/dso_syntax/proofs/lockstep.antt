-- Two readings of tokens that begin alike go in lockstep up to the first token in which they differ.
pub mod LockstepSteps
pub mod LockstepExpressions
pub mod LockstepPrograms
