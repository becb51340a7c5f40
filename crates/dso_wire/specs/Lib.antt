pub mod Cells
pub mod Spelling
pub mod CanGo
pub mod Reading
pub mod Faults
pub mod Laws
