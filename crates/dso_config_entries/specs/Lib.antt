pub mod Words
pub mod BorrowedWords
pub mod LastAndFirst
pub mod FirstPlace
pub mod ConfigEntries
pub mod LockNumbers
