pub mod behind
pub mod crash
pub mod keeping
pub mod lists
pub mod once
pub mod recording
