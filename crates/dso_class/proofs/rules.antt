-- The rules of names: which mention breaks one, which fault is told, and how judgements of mentions compose.
pub mod InBodies
pub mod OfDeclarations
pub mod Composing
pub mod ComposingItems
pub mod MetBefore
pub mod Refused
pub mod OneFault
pub mod RefusedClasses
