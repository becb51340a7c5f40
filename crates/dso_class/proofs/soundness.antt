-- The program of a text is sound: its numbers, its shape, its statements.
pub mod Numbers
pub mod Shape
pub mod Statements
pub mod Program
