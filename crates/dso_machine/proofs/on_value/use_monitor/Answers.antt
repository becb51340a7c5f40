use Rattle.std.proofs.Common.{refl}
use Rattle.dso_machine.proofs.on_value.use_monitor.Goals as goal

pub returns-in-TimedWait-clause-uses : goal.returns-in-TimedWait-clause-uses
returns-in-TimedWait-clause-uses c = λ code frame.
    rw c.in-TimedWait.is (rw c.evaluate.ensures (record { uses = λ n k moves outer rs. refl }))
