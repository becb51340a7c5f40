-- Runs of one client.
pub mod OwnRequests
pub mod Returned
pub mod Quiet
pub mod Others
pub mod Awaiting
pub mod Kept
pub mod AsksForAbsent
pub mod MakesNext
pub mod Said
pub mod Numbers
pub mod Apart
pub mod IdsTaken
pub mod IdsGoOn
