-- What a client's core keeps tells the readings of its entries.
pub mod Bodies
pub mod Marks
pub mod Leases
pub mod Ids
pub mod RisingNumbers
pub mod Counts
