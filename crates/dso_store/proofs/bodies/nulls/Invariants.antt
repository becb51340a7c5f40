use Rattle.std.proofs.Common.{◌≡◌, replicate}
use Rattle.dso_base.specs.declared.value.Value.TheVariants.{Null}
use Rattle.dso_store.proofs.bodies.nulls.Given as goal

abbrev pub invariant-loop : goal.invariant-loop
invariant-loop l = l.values.items ≡ replicate l.counter Null
