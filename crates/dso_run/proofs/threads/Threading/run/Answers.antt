use Rattle.dso_run.proofs.runs.Halted.{run_halted}
use Rattle.dso_run.proofs.threads.Threading.run.Goals as goal

-- the journal is lawful, and stands where the host halted
pub returns : goal.returns
returns g c =
    let stands = c.in_ok-halt.ensures.stands in
    rw c.outcome_of.ensures
    (run_halted c.args.program.now c.requires.sound c.args.steps c.in_ok-journal.journal.entries
    (c.in_ok-journal.ensures.lawful c.args.program.now c.requires.sound stands) c.in_ok-halt.halt
    (c.in_ok-halt.ensures.halted c.in_ok-journal.journal.entries (c.in_ok-journal.ensures.gathered c.args.program.now c.requires.sound stands)))
