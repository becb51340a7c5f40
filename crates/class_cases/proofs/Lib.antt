pub mod TextInput
pub mod FirstBody
