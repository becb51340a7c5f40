use Rattle.std.proofs.Common.{ℕ, ◌≡◌, ◌||◌, map}
use Rattle.std.specs.List.{list_any}
use Rattle.dso_base.specs.Naming.{body_with_names}
use Rattle.dso_change.specs.Hands.{values_of}
use Rattle.dso_lookup.specs.Search.{is_listed}
use Rattle.dso_txn.proofs.named.add_bodies.Given as goal

abbrev pub invariant-loop-body : goal.invariant-loop-body
invariant-loop-body l = (o : ℕ) → (is_listed o l.into.items || list_any (λ body. body_with_names body o) (map (λ e. e.1) l.body-iterator))
    ≡ (is_listed o l.initial.into.items || list_any (λ body. body_with_names body o) (values_of l.bodies))
