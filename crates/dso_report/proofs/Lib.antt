pub mod texts
pub mod histories
pub mod entries
pub mod ordering
pub mod bodies
