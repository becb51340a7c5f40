use Rattle.dso_lint_law.proofs.history.Guarding.{yes_is_guarded}
use Rattle.dso_lint_law.proofs.law.yes_is_guarded.Goals as goal

pub returns : goal.returns
returns c = yes_is_guarded
