-- When a journal is finished.
pub mod CodeEnds
pub mod Ended
pub mod Busy
pub mod Working
