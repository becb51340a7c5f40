pub mod Places
pub mod Indexes
pub mod Exclusion
pub mod EntryAnswers
pub mod OtherHolders
