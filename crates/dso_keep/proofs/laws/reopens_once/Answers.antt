use Rattle.dso_keep.proofs.once.Records.{bad_never, one_reopening}
use Rattle.dso_keep.proofs.laws.reopens_once.Goals as goal

pub returns-clause-one : goal.returns-clause-one
returns-clause-one c = one_reopening c.one_frame.ensures.record_too

pub returns-clause-bad : goal.returns-clause-bad
returns-clause-bad c = bad_never c.one_frame.ensures.record_too
