-- What holds of a text whose names have no fault: declarations differ, are few, and each use names one of them.
pub mod Text
pub mod Lists
pub mod Rules
pub mod Declared
pub mod Counts
