pub mod Flushable
pub mod Flushed
pub mod OneVictim
pub mod ResidentsListed
pub mod FlushMade
