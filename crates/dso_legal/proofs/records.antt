-- Records of a client: their numbers, what they send, publish and set, and that they come in order.
pub mod ClientSends
pub mod ServerSent
pub mod BothEnds
pub mod Numbered
pub mod ClientRecords
pub mod ClientWords
pub mod Handing
pub mod HandedIn
pub mod SentNews
pub mod NewsAreNew
pub mod FreshNews
pub mod Rising
pub mod Sorted
pub mod HandLight
pub mod Light
