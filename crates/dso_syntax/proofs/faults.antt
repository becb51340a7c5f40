-- The fault of a text: it has one at most, and the one that is answered is it.
pub mod NoWideNumber
pub mod OneFault
pub mod RightFault
pub mod AnswerOfText
