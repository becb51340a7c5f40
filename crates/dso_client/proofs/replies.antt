pub mod TwoNeeds
pub mod Outcomes
