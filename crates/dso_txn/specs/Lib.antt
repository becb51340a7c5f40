pub mod InHand
pub mod Numbers
pub mod NamedInHand
