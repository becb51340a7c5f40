pub mod BodiesWritten
pub mod HoldersWritten
pub mod Others
pub mod Collected
