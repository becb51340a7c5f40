pub mod AtPlaces
pub mod StateChanges
pub mod TableChanges
pub mod FirstNotes
pub mod LookedAt
pub mod CopyEdges
