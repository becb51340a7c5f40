pub mod SmallJournals
