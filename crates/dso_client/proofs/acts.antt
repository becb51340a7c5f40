-- What stands once a request was answered, of all parts.
pub mod Places
pub mod Heard
pub mod Machine
pub mod Contexts
pub mod Step
pub mod Next
pub mod Bounds
pub mod UpTo
pub mod SameMarks
pub mod Concerned
pub mod Parts
pub mod Going
pub mod Whole
pub mod Causes
