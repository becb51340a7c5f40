pub mod graph
