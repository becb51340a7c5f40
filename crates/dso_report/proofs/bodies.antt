-- The state that a table of bodies stands for: where a body is found, and that nothing is missing in a program's graph.
pub mod Found
pub mod Listed
pub mod WholeGraph
