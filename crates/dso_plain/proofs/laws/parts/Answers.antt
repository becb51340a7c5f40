use Rattle.dso_plain.proofs.laws.parts.Goals as goal
use Rattle.dso_plain.proofs.independence.RunsSwap.{runs_in_parts, runs_but_marks_in_parts, ends_in_parts}

pub returns-clause-runs : goal.returns-clause-runs
returns-clause-runs c = runs_in_parts

pub returns-clause-runs_but_marks : goal.returns-clause-runs_but_marks
returns-clause-runs_but_marks c = runs_but_marks_in_parts

pub returns-clause-ends : goal.returns-clause-ends
returns-clause-ends c = ends_in_parts
