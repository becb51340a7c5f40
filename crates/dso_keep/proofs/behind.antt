pub mod Gates
pub mod Told
pub mod Sizes
pub mod Bad
