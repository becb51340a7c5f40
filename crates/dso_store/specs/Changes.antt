-- The changes of a record that are for other clients, as they are read off the rows of holders.
use Rattle.std.specs.BTreeMap.{BTreeMap}
use Rattle.std.specs.Ordering.{nat_cmp}
use Rattle.std.specs.Prelude.{ℕ, Bool, cond, eqb, is_some, Option, Some, List, [], map, filter, flat_map}
use Rattle.std.specs.declared.vec.Vec.{Vec}
use Rattle.dso_base.specs.declared.journal.Sent.{Sent}
use Rattle.dso_base.specs.declared.journal.Sent.TheVariants.{ToClient}
use Rattle.dso_base.specs.declared.message.Down.TheVariants as down
use Rattle.dso_base.specs.declared.record.Set.{Set}
use Rattle.dso_law.specs.ServerStep.{changes_to}
use Rattle.dso_lookup.specs.Rows.{in_row}

-- the messages with these changes
abbrev pub messages_of : {Z : Type 0} → List (ℕ × Vec Set Z) → List Sent
messages_of changes = map (λ change. ToClient change.0 (down.Changes change.1.items)) changes

-- whether the object is in the row
abbrev pub row_has : Option (BTreeMap ℕ (Unit {0})) → ℕ → Bool
row_has row o = is_some (in_row nat_cmp row o)

-- the changes of client c's record to client d, by its row
abbrev pub row_changes : ℕ → List Set → ℕ → Option (BTreeMap ℕ (Unit {0})) → List Sent
row_changes c sets d row = cond (eqb d c) [] (changes_to d (filter (λ set. row_has row set.object) sets))

-- the changes of client c's record to all that have a row
abbrev pub all_changes : ℕ → List Set → BTreeMap ℕ (BTreeMap ℕ (Unit {0})) → List Sent
all_changes c sets holders = flat_map (λ e. row_changes c sets e.0 (Some e.1)) holders.entries
