use Rattle.std.proofs.Common.{take}
use Rattle.std.specs.List.{list_any}
use Rattle.dso_base.specs.Naming.{set_names}
use Rattle.dso_txn.specs.NamedInHand.{AddsNamed}
use Rattle.dso_world.proofs.named_parts.add_sets.Given as goal

abbrev pub invariant-loop-set : goal.invariant-loop-set
invariant-loop-set l = AddsNamed (λ o. list_any (λ set. set_names set o) (take l.set-index l.sets)) l.initial.into.items l.into.items
