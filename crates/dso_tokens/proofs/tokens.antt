-- The tokens of a text: what stands at its front, that a text is read in one way, and what the code has read so far.
pub mod LiteralContent
pub mod ByteRuns
pub mod Words
pub mod Literals
pub mod Symbols
pub mod TokenLaws
pub mod ReadingLaws
pub mod Lexing
