pub mod Tests
pub mod MapChanges
pub mod RowChanges
pub mod RowsInPlace
pub mod ListChanges
pub mod Reaching
pub mod Searching
pub mod Listed
