pub mod Bounds
pub mod Driving
