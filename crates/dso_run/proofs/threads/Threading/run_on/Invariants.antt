use Rattle.dso_run.specs.Halting.{GoesByEpochs}
use Rattle.dso_run.proofs.threads.Threading.run_on.Given as goal

-- the host stands, and the last answer told whether a slot is open
abbrev pub invariant-loop : goal.invariant-loop
invariant-loop g l = (goal.iterator-loop g).can_next l.iterator' × (goal.iterator-loop g).is_finite l.iterator' × GoesByEpochs l.fn.program l.is_open l.host
