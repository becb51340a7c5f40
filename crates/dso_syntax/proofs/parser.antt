-- What each function of the parser returns is what the reader over tokens gives, from what its parts return.
pub mod ExpressionReturns
pub mod StatementReturns
pub mod MemberReturns
pub mod ListLoops
