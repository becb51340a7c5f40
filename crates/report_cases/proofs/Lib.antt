pub mod LegalRuns
pub mod Replays
pub mod TextInput
