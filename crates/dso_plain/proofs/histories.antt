-- The two kinds of runs, legal histories that go on, and what reads of a history give.
pub mod RunKinds
pub mod LegalGoesOn
pub mod OtherMarks
pub mod HeapReads
