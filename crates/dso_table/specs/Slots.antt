-- What a write makes of an object.
use Rattle.std.specs.Prelude.{ℕ, Bool, false, Option, Some, None}
use Rattle.dso_base.specs.declared.record.Set.{Set}
use Rattle.dso_change.specs.Hands.{has_field}
use Rattle.dso_table.specs.declared.slot.Slot.{Slot}
use Rattle.dso_table.specs.declared.slot.ObjectStanding.{ObjectStanding}
use Rattle.dso_table.specs.States.{copy_of, with_value}

-- there is a copy, and it has the field
abbrev pub has_value : ℕ → ObjectStanding → Bool
has_value f standing = has_field f (copy_of standing)

-- the number of the last record that changed an object: this one, if there is one, or the one before
abbrev pub changed_last : Option ℕ → Option ℕ → Option ℕ
changed_last None before = before
changed_last (Some seq) before = Some seq

-- the object after a field of its copy was set
abbrev pub wrote : Set → Option ℕ → Slot → Slot
wrote change changed slot = record slot {
  standing = with_value change.field change.value slot.standing;
  changed = changed_last changed slot.changed;
}

-- so for an object that may be absent
abbrev pub has_slot_value : ℕ → Option Slot → Bool
has_slot_value f None = false
has_slot_value f (Some slot) = has_value f slot.standing

-- the number of the last record that changed an object that may be absent
abbrev pub changed_before : Option Slot → Option ℕ
changed_before None = None
changed_before (Some slot) = slot.changed
