-- That what is shown of a map is what its slots hold, by rising key.
use Rattle.std.specs.Prelude.{ℕ, ◌≡◌, ◌<◌, ◌≤ℤ◌, Some, All, AllPairs, Contains}
use Rattle.dso_base.specs.declared.value.Value.TheVariants as value
use Rattle.dso_map.specs.Fields.{slots, place_of}
use Rattle.dso_map.specs.Fields.MapField.{Key, Held}
use Rattle.dso_plain.specs.State.{PlainState}
use Rattle.dso_report.specs.declared.maps.MapEntry.{MapEntry}
use Rattle.dso_report.specs.Held.{number_in}
use Rattle.dso_report.specs.MapEntries.{map_entries}

-- the slot has the key of the entry, and holds its object
pub record IsOfSlot (s : PlainState) (o : ℕ) (entry : MapEntry) (slot : ℕ) : Type 0 where
  pub within : slot < slots
  pub key : number_in (s.heap (o, place_of (Key slot))) ≡ entry.key
  pub object : s.heap (o, place_of (Held slot)) ≡ Some (value.Ref entry.object)

-- Each slot that holds an object has an entry, each entry is of such a slot, and the keys don't fall.
pub record ShowsSlots (s : PlainState) (o : ℕ) : Type 0 where
  pub each : (slot : ℕ) (entry : MapEntry) → IsOfSlot s o entry slot → Contains (map_entries s o) entry
  pub only : All (λ entry. (slot : ℕ) × IsOfSlot s o entry slot) (map_entries s o)
  pub rise : AllPairs (λ entry later. entry.key ≤ℤ later.key) (map_entries s o)
