pub mod branch
