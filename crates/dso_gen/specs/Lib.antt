pub mod GeneratedLoad
pub mod LoadLine
