pub mod Moments
pub mod Torn
pub mod Opening
pub mod Creating
