pub mod rings
pub mod standing
