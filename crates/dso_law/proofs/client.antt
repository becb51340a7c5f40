-- What the entries of a client tell of its objects, locks and blocks, and the laws of its rule.
pub mod HasBody
pub mod HoldCounts
pub mod WorkByEntry
pub mod ClientLaws
pub mod TimedOut
