use Rattle.dso_run.proofs.laws.lint_yes_is_guarded.Goals as goal

-- the code of an accepted program is sound
pub returns : goal.returns
returns c = λ input output means. record {
  call = means.due.call;
  program = means.due.program;
  accepted = means.due.accepted;
  guarded = c.yes_is_guarded.ensures means.due.program.code means.due.accepted.taken.holds.resolved.sound.code means.due.verdict;
}
