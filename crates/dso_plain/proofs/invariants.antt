-- What holds of pasts, of monitors and of waits in every state that is reached.
pub mod PastsHold
pub mod MonitorsHold
