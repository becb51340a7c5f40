-- Publishing in the tables: what an object names, that one is made shared, and that all that are found are.
pub mod ObjectShared
pub mod PublishedIsReached
pub mod FieldsName
pub mod AllShared
