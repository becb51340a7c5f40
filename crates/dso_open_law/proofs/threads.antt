-- What a thread needs and is answered, where the entry doesn't touch it.
pub mod Awaiting
pub mod Acting
pub mod Journals
