pub mod FirstBounds
pub mod Going
