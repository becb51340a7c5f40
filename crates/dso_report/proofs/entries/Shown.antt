-- Of each map is shown what its slots hold.
use Rattle.std.proofs.Common.{refl, subst, ℕ, Contains}
use Rattle.dso_map.specs.Fields.{slots}
use Rattle.dso_plain.specs.State.{PlainState}
use Rattle.dso_report.specs.declared.maps.MapEntry.{MapEntry}
use Rattle.dso_report.specs.MapEntries.{map_entries}
use Rattle.dso_report.specs.ShownMaps.{IsOfSlot, ShowsSlots}
use Rattle.dso_report.proofs.entries.OfSlots.{entries_hold, slot_there}
use Rattle.dso_report.proofs.entries.Rising.{entries_rise}

-- the entry of a slot is shown
each_shown : (s : PlainState) (o slot : ℕ) (entry : MapEntry) → IsOfSlot s o entry slot → Contains (map_entries s o) entry
each_shown s o slot entry is =
    subst (λ key. Contains (map_entries s o) (record { key = key; object = entry.object })) is.key (slot_there s o slots slot entry.object is.within is.object)

-- what is shown is what the slots hold
pub shows_slots : (s : PlainState) (o : ℕ) → ShowsSlots s o
shows_slots s o = record {
  each = each_shown s o;
  only = entries_hold (λ entry. (slot : ℕ) × IsOfSlot s o entry slot) s o slots (λ slot named within holds. (slot, record { within = within; key = refl; object = holds }));
  rise = entries_rise s o slots;
}
