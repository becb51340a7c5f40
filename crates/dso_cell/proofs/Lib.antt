pub mod locked
pub mod new_cells
pub mod pairs
pub mod serving
pub mod standing
