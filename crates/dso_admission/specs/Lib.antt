pub mod Admissions
pub mod Laws
