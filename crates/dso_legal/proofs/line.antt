-- A client's line: what it did and the server didn't take yet can still be done.
pub mod LineForeign
pub mod LineOwn
pub mod LineParts
pub mod LineSent
pub mod LineTaken
pub mod LineElsewhere
pub mod LineLost
pub mod LossTaken
pub mod StandsOn
pub mod StandsOwn
pub mod AllStandOn
pub mod AtBlockEnd
