-- What an entry does to the past of a client's connection.
pub mod Courses
pub mod Posting
pub mod OwnEntry
pub mod ServerEntry
