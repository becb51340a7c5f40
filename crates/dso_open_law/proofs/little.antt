-- That entries of a run touch no more than they do.
pub mod Returning
pub mod LittleTouched
