pub mod NextIds
pub mod AtStart
pub mod ContextsFound
pub mod Going
pub mod BatchEnds
pub mod KeptCounts
pub mod ChangedContexts
