-- The example journals: that they are those of runs, that four of them meet the premises of the central law, and that wrong entries
-- are refused.
pub mod Facts
pub mod Checks
pub mod Replay
pub mod Runs
pub mod CourseKeeps
pub mod SoundCourses
pub mod Meets
pub mod Refused
pub mod Misfits
pub mod Unfitting
pub mod NearMisses
