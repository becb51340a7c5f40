-- Cells before their first entry.
pub mod FewThreads
pub mod NewCells
pub mod NewLines
pub mod SoFar
