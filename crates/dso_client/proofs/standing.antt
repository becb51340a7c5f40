-- What goes on to hold of a client where nothing that it keeps changes: with a rejoin of its connection, and with a
-- higher bound.
pub mod Rejoined
pub mod Bounds
pub mod Parts
