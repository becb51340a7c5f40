-- The tables of what a text declares: they are filled item by item, and tell what the definitions say.
pub mod Items
pub mod Multimap
pub mod Statics
pub mod FieldsAndMethods
pub mod Callees
pub mod Distinct
pub mod ClassNames
pub mod NamesSoFar
