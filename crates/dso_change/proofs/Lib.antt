pub mod OpeningValues
pub mod BodyLists
pub mod RisingBodies
pub mod OnceInHand
pub mod Published
pub mod HandChanges
pub mod Gathered
pub mod EventsFollowed
