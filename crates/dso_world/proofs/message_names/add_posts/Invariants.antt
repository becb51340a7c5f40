use Rattle.std.proofs.Common.{take}
use Rattle.std.specs.List.{list_any}
use Rattle.dso_txn.specs.NamedInHand.{AddsNamed}
use Rattle.dso_world.specs.Collections.{message_names}
use Rattle.dso_world.proofs.message_names.add_posts.Given as goal

abbrev pub invariant-loop-posted : goal.invariant-loop-posted
invariant-loop-posted l = AddsNamed (λ o. list_any (λ posted. message_names posted.message o) (take l.posted-index l.posts)) l.initial.into.items l.into.items
