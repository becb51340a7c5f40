-- The moves that are counted are enough, so more of them, or replies that come later, make no difference.
pub mod NotStopped
pub mod ExpressionsNotStopped
pub mod Enough
pub mod MoreReplies
pub mod MoreRepliesInTrees
