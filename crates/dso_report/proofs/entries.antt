-- Which entries a map has: one for each slot that holds an object, by rising key.
pub mod OfSlots
pub mod Places
pub mod Rising
pub mod Shown
