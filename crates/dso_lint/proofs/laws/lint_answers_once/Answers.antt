use Rattle.dso_lint.proofs.judging.OneVerdict.{one_verdict}
use Rattle.dso_lint.proofs.laws.lint_answers_once.Goals as goal

pub returns : goal.returns
returns c = one_verdict
