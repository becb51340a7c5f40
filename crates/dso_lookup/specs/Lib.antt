pub mod Maps
pub mod Rows
pub mod Lists
pub mod Reaching
pub mod Search
pub mod Orders
