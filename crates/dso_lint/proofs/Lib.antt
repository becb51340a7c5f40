pub mod standing
pub mod cleanness
pub mod calling
pub mod guarding
pub mod upgrading
pub mod judging
