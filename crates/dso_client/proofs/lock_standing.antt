pub mod LockStands
pub mod HoldsSome
pub mod FirstAcked
pub mod FreeLocks
pub mod Rivals
