-- Where reading stops, the tokens that were read are a prefix of a whole form: with the room that there is or with one level more.
pub mod StopSteps
pub mod StopExpressions
pub mod StopStatements
pub mod StopMembers
pub mod StopPrograms
pub mod OneLevelMore
