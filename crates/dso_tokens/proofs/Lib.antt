pub mod tokens
