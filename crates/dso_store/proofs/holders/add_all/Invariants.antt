use Rattle.std.proofs.Common.{◌≡◌, drop}
use Rattle.dso_store.specs.Graph.{holds_by, with_holder}
use Rattle.dso_store.proofs.holders.add_all.Given as goal

abbrev pub invariant-loop-body : goal.invariant-loop-body
invariant-loop-body l = with_holder l.client (drop l.body-index l.news) (holds_by l.holders) ≡ with_holder l.client l.news (holds_by l.initial.holders)
