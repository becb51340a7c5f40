pub mod ProgramSettings
pub mod FirstBounds
