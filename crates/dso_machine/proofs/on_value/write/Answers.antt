use Rattle.std.proofs.Common.{refl}
use Rattle.dso_machine.proofs.on_value.write.Goals as goal

pub returns-in-FieldOf-clause-uses : goal.returns-in-FieldOf-clause-uses
returns-in-FieldOf-clause-uses c = λ code frame.
    rw c.in-FieldOf.is (rw c.next.ensures (record { uses = λ n k moves outer rs. refl }))
