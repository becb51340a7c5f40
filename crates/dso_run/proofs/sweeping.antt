-- Collections of a run: what they swept, and how many objects that can be.
pub mod Lists
pub mod MadeObjects
pub mod Counting
pub mod Collecting
pub mod Rounds
