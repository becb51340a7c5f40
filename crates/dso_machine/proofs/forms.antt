-- Each form of expression and statement: what it means, how it is begun, how much it weighs.
pub mod Equations
pub mod Beginnings
pub mod Weights
pub mod Knowing
pub mod Seconds
