pub mod Order
pub mod Pumping
pub mod Carried
pub mod Ends
pub mod Stands
pub mod Takes
