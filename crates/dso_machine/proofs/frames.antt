-- What a thread holds: object 0, what it held before, or what a reply told.
pub mod Held
pub mod Parts
pub mod Maps
pub mod Calls
pub mod Trees
pub mod Law
pub mod Named
