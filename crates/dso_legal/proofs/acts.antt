-- What a client answers, the one heap allows; and what a thread was told.
pub mod Acts
pub mod ActsOnLocks
pub mod ActsOnObjects
pub mod ClientActs
pub mod WorkInHand
pub mod SeesAll
pub mod Names
pub mod KnownNames
pub mod SoundNames
