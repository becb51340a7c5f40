pub mod keys
pub mod publishing
pub mod table_changes
pub mod independence
pub mod invariants
pub mod loss
pub mod histories
