use Rattle.std.proofs.Common.{◌≡◌, ◌∙◌, sym, refl, false, reverse}
use Rattle.dso_legal.specs.Slots.{is_finished, weight}
use Rattle.dso_world.specs.WorldSteps.{settings_of}
use Rattle.dso_run.proofs.runs.Going.{heavy_by, light_by}
use Rattle.dso_run.proofs.threads.Threading.run_on.Goals as goal

-- the budget is used up
pub returns-then-weight-steps-clause-halted : goal.returns-then-weight-steps-clause-halted
returns-then-weight-steps-clause-halted g c = λ entries journal. (
  sym (c.finished.ensures entries journal) ∙ c.if-finished.false,
  heavy_by c.weight.result (weight (reverse entries)) c.args.steps (c.weight.ensures c.args.program.now entries journal) c.if-weight-steps.true,
)

-- no slot is open
pub returns-then-not-is_open-clause-halted : goal.returns-then-not-is_open-clause-halted
returns-then-not-is_open-clause-halted g c = λ entries journal.
    let unfinished : is_finished (settings_of c.args.program.now) (reverse entries) ≡ false = sym (c.finished.ensures entries journal) ∙ c.if-finished.false in
    let none = c.loop.invariant.2.closed c.if-not-is_open.true entries journal in (
      light_by c.weight.result (weight (reverse entries)) c.args.steps (c.weight.ensures c.args.program.now entries journal) c.requires.steps c.if-weight-steps.false,
      rw unfinished (rw none refl),
    )
