-- A client's copies, as messages come and go and the one heap goes on.
pub mod CopiesAtClient
pub mod CopiesForeign
pub mod CopiesGoOn
pub mod CopiesLost
pub mod CopiesObject
pub mod CopiesOwn
pub mod ClassMoves
pub mod FieldMoves
pub mod ForeignRecord
pub mod OwnCopies
pub mod ServerCopies
pub mod ChangesSent
pub mod ServerMessages
pub mod PastValues
pub mod SeenStays
pub mod SeesCopies
