-- A thread leaves its locks in the opposite order of their entries, and at a fault at once.
pub mod Tidy
pub mod Parts
pub mod Trees
pub mod Runs
pub mod RunsOn
pub mod Unwound
pub mod Laws
