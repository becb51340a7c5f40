pub mod ends
