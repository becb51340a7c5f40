pub mod Config
pub mod Configuration
pub mod Entries
pub mod InRange
pub mod Keys
pub mod Sections
pub mod Spelling
