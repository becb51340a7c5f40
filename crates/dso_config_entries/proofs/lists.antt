-- Plain lists: the last item of a kind, the first place of a thing, words that are borrowed.
pub mod Last
pub mod Places
pub mod Keyed
pub mod BorrowedWords
