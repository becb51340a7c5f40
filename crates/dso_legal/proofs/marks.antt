-- Marks: who of the waiters is marked in the one heap.
pub mod BlockMarks
pub mod RecordMarks
pub mod RecordTaken
pub mod MarksHold
pub mod SameRuns
