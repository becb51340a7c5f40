pub mod Hand
pub mod Within
pub mod Starts
pub mod EventNames
pub mod ThreadNames
pub mod Asking
pub mod Returned
pub mod SentNames
