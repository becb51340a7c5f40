pub mod readings
pub mod threads
pub mod little
pub mod sound
