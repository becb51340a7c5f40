-- Runs of one client.
pub mod ClientsRun
pub mod ChangesResident
pub mod IdsInRuns
pub mod HandsInRuns
pub mod InHandAbsent
pub mod FlushWords
