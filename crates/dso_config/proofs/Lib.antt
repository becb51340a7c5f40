pub mod ExactRules
pub mod ExactSections
pub mod NoWant
pub mod OneAnswer
pub mod Ranges
pub mod SectionFaults
pub mod Spots
pub mod Written
