pub mod Telling
pub mod Lists
pub mod ThreadTables
pub mod ListTables
pub mod Among
pub mod Each
