use Rattle.std.proofs.Common.{take}
use Rattle.std.specs.List.{list_any}
use Rattle.dso_base.specs.Naming.{body_with_names}
use Rattle.dso_txn.specs.NamedInHand.{AddsNamed}
use Rattle.dso_world.proofs.named_parts.add_bodies.Given as goal

abbrev pub invariant-loop-body : goal.invariant-loop-body
invariant-loop-body l = AddsNamed (λ o. list_any (λ body. body_with_names body o) (take l.body-index l.bodies)) l.initial.into.items l.into.items
