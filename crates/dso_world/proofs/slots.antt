-- Which slots an entry may open or close.
pub mod OthersStay
-- Each slot stands once among those of a cluster.
pub mod Once
