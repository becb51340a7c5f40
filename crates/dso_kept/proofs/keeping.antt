-- Records that a server has applied: that they fit, how an entry adds to them, that they can be kept, and what a crash leaves.
pub mod Acknowledged
pub mod Applied
pub mod Adding
pub mod Lightness
pub mod Stretches
pub mod Leaving
pub mod Steps
