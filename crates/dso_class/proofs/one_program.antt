-- A tree has one program at most: code in numbers, bodies, and lists that are determined.
pub mod Lists
pub mod Expressions
pub mod Statements
pub mod ExpressionCode
pub mod StatementCode
pub mod Variables
pub mod Bodies
pub mod Code
pub mod Program
