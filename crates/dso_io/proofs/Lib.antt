pub mod FaultCounts
pub mod SinkPieces
