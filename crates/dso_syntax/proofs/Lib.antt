pub mod completeness
pub mod soundness
pub mod lockstep
pub mod faults
pub mod prefixes
pub mod parser
