pub mod Choices
pub mod Followed
pub mod EntryDraft
pub mod Stepped
pub mod Looks
pub mod Openings
