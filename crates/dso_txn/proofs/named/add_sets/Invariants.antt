use Rattle.std.proofs.Common.{ℕ, ◌≡◌, ◌||◌, map}
use Rattle.std.specs.List.{list_any}
use Rattle.dso_base.specs.Naming.{set_names}
use Rattle.dso_change.specs.Hands.{set_of_entry, sets_of}
use Rattle.dso_lookup.specs.Search.{is_listed}
use Rattle.dso_txn.proofs.named.add_sets.Given as goal

abbrev pub invariant-loop-field : goal.invariant-loop-field
invariant-loop-field l = (o : ℕ) → (is_listed o l.into.items || list_any (λ set. set_names set o) (map set_of_entry l.field-iterator))
    ≡ (is_listed o l.initial.into.items || list_any (λ set. set_names set o) (sets_of l.sets))
