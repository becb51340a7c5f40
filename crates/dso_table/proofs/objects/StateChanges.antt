-- The state after a change of what is kept of one object.
use Rattle.std.proofs.Common.{ℕ, ◌+◌, ◌≡◌, refl, sym, ◌∙◌, ap, Bool, true, false, cond, is_some, Option, Some, None}
use Rattle.std.proofs.Math.Path.{fun_ext}
use Rattle.std.specs.Option.{option_map}
use Rattle.dso_base.specs.declared.record.Body.{Body}
use Rattle.dso_base.specs.declared.record.Set.{Set}
use Rattle.dso_lookup.specs.Maps.{writes, or_old, written}
use Rattle.dso_table.specs.declared.slot.Slot.{Slot}
use Rattle.dso_table.specs.declared.slot.ObjectStanding.TheVariants as standing
use Rattle.dso_table.specs.declared.tables.ObjectTables.{ObjectTables}
use Rattle.dso_table.specs.Slots.{wrote, changed_last, changed_before, has_slot_value}
use Rattle.dso_table.specs.States.{is_resident, later_than, with_at, with_value, marked, put}
use Rattle.dso_table.specs.ObjectTables.{slot_in, standing_of, mark_of, is_ordered, state_in, put_slot, TablesAgree}
use Rattle.dso_table.proofs.lists.Numbers.{with_at_map, with_at_same}

-- notes of which one more is there
pub note_added : {K : Type 0} (at : K → Bool) (f g : K → Option (Unit {0})) → g ≡ written (writes at (λ _. Some tt)) f → (λ key. is_some (g key)) ≡ written (writes at (λ _. true)) (λ key. is_some (f key))
note_added at f g is = fun_ext (λ key. ap (λ h. is_some (h key)) is ∙ by (at key) (f key))
  where
    by : (b : Bool) (x : Option (Unit {0})) → is_some (or_old (cond b (Some (Some tt)) None) x) ≡ or_old (cond b (Some true) None) (is_some x)
    by true x = refl
    by false x = refl

module _ (old new : ObjectTables) (o : ℕ) (slot : Option Slot) (is : slot_in new.places ≡ with_at o slot (slot_in old.places)) where
  -- how the objects stand
  pub standing_is : (state_in new).standing ≡ with_at o (standing_of slot) (state_in old).standing
  standing_is = ap (λ f. λ p. standing_of (f p)) is ∙ with_at_map (λ s. standing_of s) o slot (slot_in old.places)

  -- and their marks
  pub marks_are : new.acked ≡ old.acked → (state_in new).marks ≡ with_at o (mark_of old.acked slot) (state_in old).marks
  marks_are acked = ap (λ n. λ p. mark_of n (slot_in new.places p)) acked ∙ (ap (λ f. λ p. mark_of old.acked (f p)) is ∙ with_at_map (λ s. mark_of old.acked s) o slot (slot_in old.places))

  -- exactly the resident objects are in the order
  pub residents_agree : TablesAgree old → (b : Bool) → is_resident (standing_of slot) ≡ b → is_ordered new.order ≡ with_at o b (is_ordered old.order) → (p : ℕ) → is_resident (standing_of (slot_in new.places p)) ≡ is_ordered new.order p
  residents_agree agree b resident ordered p = ap (λ f. is_resident (standing_of (f p))) is ∙ (ap (λ f. f p) (with_at_map (λ s. is_resident (standing_of s)) o slot (slot_in old.places)) ∙ (ap (λ c. with_at o c (λ q. is_resident (standing_of (slot_in old.places q))) p) resident ∙ (ap (λ f. with_at o b f p) (fun_ext agree.residents) ∙ sym (ap (λ f. f p) ordered))))

  -- also where the object is as resident as before
  pub residents_kept : TablesAgree old → is_resident (standing_of slot) ≡ is_resident (standing_of (slot_in old.places o)) → is_ordered new.order ≡ is_ordered old.order → (p : ℕ) → is_resident (standing_of (slot_in new.places p)) ≡ is_ordered new.order p
  residents_kept agree as_before ordered = residents_agree agree (is_ordered old.order o) (as_before ∙ agree.residents o) (ordered ∙ sym (with_at_same o (is_ordered old.order o) (is_ordered old.order) refl))

-- the mark of an object, by the number of the last record that changed it
pub mark_before : (acked : ℕ) (slot : Option Slot) → mark_of acked slot ≡ later_than acked (changed_before slot)
mark_before acked None = refl
mark_before acked (Some slot) = refl

-- the marks where a record may have changed the object of a slot
pub marks_last : (tables : ObjectTables) (o : ℕ) (changed : Option ℕ) → with_at o (later_than tables.acked (changed_last changed (changed_before (slot_in tables.places o)))) (state_in tables).marks ≡ marked o changed (state_in tables)
marks_last tables o None = with_at_same o (later_than tables.acked (changed_before (slot_in tables.places o))) (state_in tables).marks (mark_before tables.acked (slot_in tables.places o))
marks_last tables o (Some n) = refl

-- the slot of an object that a body is put into
abbrev pub slot_of : ObjectTables → Body → Option ℕ → Slot
slot_of tables body changed = record { object = body.object; standing = standing.Resident body; changed = changed_last changed (changed_before (slot_in tables.places body.object)) }

-- what is told after its slot was put
pub put_as_slot : (tables : ObjectTables) (body : Body) (changed : Option ℕ) (more : ℕ) → more ≡ cond (is_resident ((state_in tables).standing body.object)) 0 1 → put_slot (slot_of tables body changed) more (state_in tables) ≡ put body changed (state_in tables)
put_as_slot tables body changed more is = λ i. record (state_in tables) {
  standing = with_at body.object (Some (standing.Resident body)) (state_in tables).standing;
  marks = marks_last tables body.object changed i;
  residents = (state_in tables).residents + is i;
}

-- what a write makes of the standing
pub standing_written : (change : Set) (changed : Option ℕ) (slot : Option Slot) → standing_of (option_map (wrote change changed) slot) ≡ option_map (with_value change.field change.value) (standing_of slot)
standing_written change changed None = refl
standing_written change changed (Some slot) = refl

-- what it makes of the mark, where there is something to write
pub mark_written : (acked : ℕ) (change : Set) (changed : Option ℕ) (slot : Option Slot) → has_slot_value change.field slot ≡ true → mark_of acked (option_map (wrote change changed) slot) ≡ later_than acked (changed_last changed (changed_before slot))
mark_written acked change changed None e = absurd (cc e)
mark_written acked change changed (Some slot) e = refl
