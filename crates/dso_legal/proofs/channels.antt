-- Messages in flight at an entry, and statuses that both ends keep.
pub mod Agreement
pub mod InFlight
pub mod AfterEntry
pub mod Simulation
pub mod Dropping
