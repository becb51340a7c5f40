use Rattle.dso_law.proofs.core_laws.marks.Goals as goal
use Rattle.dso_law.proofs.core.Marks.{marks_tell}

pub returns : goal.returns
returns c = marks_tell
