-- What the entries of the server tell, read one after the other.
pub mod SameGraph
pub mod TimeoutsTaken
