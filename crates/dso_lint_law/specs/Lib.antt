pub mod GuardedHistories
