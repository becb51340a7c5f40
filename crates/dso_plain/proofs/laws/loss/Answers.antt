use Rattle.dso_plain.proofs.laws.loss.Goals as goal
use Rattle.dso_plain.proofs.loss.RunsSurvive.{loss, marks_after_loss, waiters_left, choice_after_loss}

pub returns-clause-runs : goal.returns-clause-runs
returns-clause-runs c = loss

pub returns-clause-marks : goal.returns-clause-marks
returns-clause-marks c = marks_after_loss

pub returns-clause-waiters : goal.returns-clause-waiters
returns-clause-waiters c = λ shape. waiters_left

pub returns-clause-choice : goal.returns-clause-choice
returns-clause-choice c = choice_after_loss
