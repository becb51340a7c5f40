pub mod values
pub mod steps
pub mod forms
pub mod standing
pub mod moves
pub mod protocol
pub mod unwinding
pub mod frames
