-- The answer by what was found of each body, and how many bodies there are.
pub mod FewBodies
pub mod Verdicts
pub mod OneVerdict
pub mod FoundBodies
