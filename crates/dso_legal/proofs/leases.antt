-- Leases at both ends, and holds within them.
pub mod LeaseSteps
pub mod ClientLeases
pub mod Queues
pub mod Granting
pub mod ServerLeases
pub mod LeasesInFlight
pub mod LeasesCompatible
pub mod Tokens
pub mod KeptLeases
pub mod Holding
pub mod Holds
pub mod HoldsApart
pub mod HoldsSeen
pub mod Locks
