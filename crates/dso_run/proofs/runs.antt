-- The run over the cluster: its failures, its steps and its ends.
pub mod Failures
pub mod ChosenOpen
pub mod Going
pub mod Halted
pub mod KeptSteps
