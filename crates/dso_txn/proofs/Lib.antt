pub mod LastSet
pub mod NamesInHand
