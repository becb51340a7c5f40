-- The state that changed tables stand for, and that the indexes still agree.
pub mod BlankTables
pub mod AgreeAfterChange
pub mod ThreadLeaves
pub mod ClientLeaves
pub mod HoldsAndWaits
pub mod TwoChanges
pub mod Notifications
pub mod NewAndPut
pub mod PastPlaces
pub mod Unchanged
pub mod Printed
