-- The work in hand once a request was answered, and its record.
pub mod Hands
pub mod Records
pub mod Used
