-- The numbers of threads: each counts its client's threads so far, and they rise by client and index.
pub mod CountedBodies
pub mod ClientCounts
pub mod ThreadsRise
pub mod Sound
