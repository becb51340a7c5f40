-- When keys are the same, in tests and in the orders of tables, and what is written at them.
pub mod SameKeys
pub mod TableOrders
pub mod Writes
