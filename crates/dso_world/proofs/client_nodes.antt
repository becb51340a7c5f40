pub mod Fits
pub mod EntryDraft
pub mod With
pub mod Said
pub mod Kept
pub mod Acted
pub mod Taken
