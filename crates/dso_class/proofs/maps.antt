-- Clustered maps: whether a text makes one, what its class is, and what may be made and called.
pub mod Making
pub mod MakingForms
pub mod MapFields
pub mod MapRows
pub mod Reachable
