-- The walk over a text, part by part: expressions, statements, bodies, members, classes and threads, the whole.
pub mod BodyParts
pub mod Items
pub mod Arguments
pub mod Blocks
pub mod Bodies
pub mod Declaring
pub mod Knowing
pub mod Literals
pub mod Narrowing
pub mod MetItems
pub mod ClassItems
pub mod MethodItems
pub mod MemberItems
pub mod ThreadItems
pub mod WholeText
pub mod SettingOf
