pub mod CallCode
