-- What goes through a ring: what was taken at one end is what was given at the other.
pub mod Meeting
