-- Steps and runs of threads that have nothing to do with each other: what they leave alone, and that they can swap.
pub mod ChangesCommute
pub mod LeavesOthers
pub mod WritesGuarded
pub mod StaysPossible
pub mod WritesSame
pub mod RunsSwap
pub mod ChoicesSwap
pub mod LeftAlone
