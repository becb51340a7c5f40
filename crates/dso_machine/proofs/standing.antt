-- For which replies and events a thread stands, and that it is over exactly where its code asks nothing more.
pub mod AfterReplies
pub mod AfterEvents
pub mod Ends
pub mod NotOver
pub mod ContinuationNotOver
