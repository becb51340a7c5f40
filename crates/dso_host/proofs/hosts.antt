-- The cells of a host: their rings, their logs, and what they tell of the journal that these make.
pub mod Answered
pub mod AnyOpen
pub mod Begun
pub mod GoodMessages
pub mod Journals
pub mod Kept
pub mod Logs
pub mod Looked
pub mod Named
pub mod Pairs
pub mod Readings
pub mod Renamed
pub mod Rest
pub mod Slots
pub mod Told
pub mod Turned
