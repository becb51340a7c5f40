-- The objects at their places after a change of the index and of one place.
use Rattle.std.proofs.Common.{ℕ, ◌≡◌, ◌≢◌, refl, sym, ◌∙◌, ap, Bool, true, false, cond, is_some, Option, Some, None}
use Rattle.std.proofs.Math.Path.{fun_ext}
use Rattle.std.specs.BTreeMap.{is_at}
use Rattle.std.specs.Option.{option_map}
use Rattle.std.specs.Ordering.{nat_cmp}
use Rattle.std.specs.Bool.{OnTrue, OnFalse}
use Rattle.slab.specs.Slab.{Slab, get, with_value, Updates}
use Rattle.slab.proofs.SlabLemmas.{Updates-with_value}
use Rattle.dso_base.specs.declared.record.Set.{Set}
use Rattle.dso_lookup.specs.Maps.{look, or_old}
use Rattle.dso_table.specs.declared.places.Places.{Places}
use Rattle.dso_table.specs.declared.slot.Slot.{Slot}
use Rattle.dso_table.specs.Slots.{has_value, has_slot_value, wrote}
use Rattle.dso_table.specs.States.{with_at}
use Rattle.dso_table.specs.ObjectTables.{at_place, slot_in, PlacesAgree}
use Rattle.dso_table.proofs.lists.Numbers.{at_it, is_at_itself, with_at_same}

-- the object of what stands at a place, if there is one
abbrev pub object_at : Option Slot → Option ℕ
object_at slot = option_map (λ s. s.object) slot

-- what is told of the places after a change of one object
pub record IsPlaced (new : Places) (slots : ℕ → Option Slot) : Type 0 where
  pub slots_are : slot_in new ≡ slots
  pub agree : PlacesAgree new

module _ (old new : Places) (agree : PlacesAgree old) (o p : ℕ) (value : Option ℕ) (slot : Option Slot) where
  -- the index was changed at an object, and the slab at a place where no other object stands
  pub placed : ((q : ℕ) → look nat_cmp new.index q ≡ cond (is_at (nat_cmp o) q) value (look nat_cmp old.index q)) → Updates old.slots new.slots p slot → ((q : ℕ) → is_at (nat_cmp o) q ≡ false → look nat_cmp old.index q ≡ Some p → ⊥) → at_place new value ≡ slot → ((r : ℕ) → value ≡ Some r → object_at (get new.slots r) ≡ Some o) → IsPlaced new (with_at o slot (slot_in old))
  placed index slots apart here own = record {
    slots_are = fun_ext (λ q. stands q (is_at (nat_cmp o) q) refl);
    agree = record { stands = λ q r e. tells q r (is_at (nat_cmp o) q) refl e };
  }
    where
      -- another object's place is another
      elsewhere : (q r : ℕ) → is_at (nat_cmp o) q ≡ false → look nat_cmp old.index q ≡ Some r → r ≢ p
      elsewhere q r e is same = apart q e (is ∙ ap (λ n. Some n) same)

      kept : (q : ℕ) → is_at (nat_cmp o) q ≡ false → (place : Option ℕ) → look nat_cmp old.index q ≡ place → at_place new place ≡ at_place old place
      kept q e None is = refl
      kept q e (Some r) is = slots.others r (elsewhere q r e is)

      stands : (q : ℕ) (b : Bool) → is_at (nat_cmp o) q ≡ b → slot_in new q ≡ or_old (cond b (Some slot) None) (slot_in old q)
      stands q true e = ap (λ place. at_place new place) (index q ∙ ap (λ b. cond b value (look nat_cmp old.index q)) e) ∙ here
      stands q false e = ap (λ place. at_place new place) (index q ∙ ap (λ b. cond b value (look nat_cmp old.index q)) e) ∙ kept q e (look nat_cmp old.index q) refl

      tells : (q r : ℕ) (b : Bool) → is_at (nat_cmp o) q ≡ b → look nat_cmp new.index q ≡ Some r → object_at (get new.slots r) ≡ Some q
      tells q r true e is = own r (sym (index q ∙ ap (λ b. cond b value (look nat_cmp old.index q)) e) ∙ is) ∙ ap (λ n. Some n) (sym (at_it o q e))
      tells q r false e is =
          let was : look nat_cmp old.index q ≡ Some r = sym (index q ∙ ap (λ b. cond b value (look nat_cmp old.index q)) e) ∙ is in
          ap (λ s. object_at s) (slots.others r (elsewhere q r e was)) ∙ agree.stands q r was

-- an object that is at a place stands there alone
pub alone : (old : Places) → PlacesAgree old → (o p : ℕ) → look nat_cmp old.index o ≡ Some p → (q : ℕ) → is_at (nat_cmp o) q ≡ false → look nat_cmp old.index q ≡ Some p → ⊥
alone old agree o p here q apart there =
    let same : o ≡ q = ap (λ n. option_or o n) (sym (agree.stands o p here) ∙ agree.stands q p there) in
    absurd (cc (sym (is_at_itself o) ∙ (ap (λ n. is_at (nat_cmp o) n) same ∙ apart)))
  where
    option_or : ℕ → Option ℕ → ℕ
    option_or n None = n
    option_or n (Some m) = m

-- an object was added at a vacant place
pub placed_new : (old new : Places) → PlacesAgree old → (slot : Slot) (mid : Slab Slot) (p k : ℕ) → mid ≡ record old.slots { capacity = mid.capacity } → p ≡ mid.vacant_key → k ≡ mid.vacant_key → ((q : ℕ) → look nat_cmp new.index q ≡ cond (is_at (nat_cmp slot.object) q) (Some p) (look nat_cmp old.index q)) → get mid k ≡ None → Updates mid new.slots k (Some slot) → IsPlaced new (with_at slot.object (Some slot) (slot_in old))
placed_new old new agree slot mid p k same is key index vacant slots =
    let one : k ≡ p = key ∙ sym is in
    let slots' : Updates old.slots new.slots k (Some slot) = record { changed = slots.changed; others = λ r e. slots.others r e ∙ ap (λ s. get s r) same } in
    let vacant' : get old.slots k ≡ None = sym (ap (λ s. get s k) same) ∙ vacant in
    placed old new agree slot.object k (Some k) (Some slot) (λ q. index q ∙ ap (λ n. cond (is_at (nat_cmp slot.object) q) (Some n) (look nat_cmp old.index q)) (sym one)) slots' (λ q apart there. absurd (cc (sym (ap (λ s. object_at s) vacant') ∙ agree.stands q k there))) slots.changed (λ r e. ap (λ n. object_at (at_place new n)) (sym e) ∙ ap (λ s. object_at s) slots.changed)

-- an object was taken out of its place
pub placed_out : (old new : Places) → PlacesAgree old → (o p : ℕ) → look nat_cmp old.index o ≡ Some p → ((q : ℕ) → look nat_cmp new.index q ≡ cond (is_at (nat_cmp o) q) None (look nat_cmp old.index q)) → Updates old.slots new.slots p None → IsPlaced new (with_at o None (slot_in old))
placed_out old new agree o p here index slots = placed old new agree o p None None index slots (alone old agree o p here) refl (λ r e. absurd (cc e))

-- something else of the object was put in its place
pub placed_over : (old new : Places) → PlacesAgree old → (o p : ℕ) (slot : Slot) → look nat_cmp old.index o ≡ Some p → new.index ≡ old.index → Updates old.slots new.slots p (Some slot) → slot.object ≡ o → IsPlaced new (with_at o (Some slot) (slot_in old))
placed_over old new agree o p slot here index slots its = placed old new agree o p (Some p) (Some slot) (λ q. ap (λ m. look nat_cmp m q) index ∙ by q (is_at (nat_cmp o) q) refl) slots (alone old agree o p here) slots.changed (λ r e. ap (λ n. object_at (at_place new n)) (sym e) ∙ (ap (λ s. object_at s) slots.changed ∙ ap (λ n. Some n) its))
  where
    by : (q : ℕ) (b : Bool) → is_at (nat_cmp o) q ≡ b → look nat_cmp old.index q ≡ cond b (Some p) (look nat_cmp old.index q)
    by q true e = ap (λ n. look nat_cmp old.index n) (at_it o q e) ∙ here
    by q false e = refl

-- what was lent of an object's place was written
pub placed_back : (old : Places) → PlacesAgree old → (o p : ℕ) (was slot : Slot) → look nat_cmp old.index o ≡ Some p → Some was ≡ get old.slots p → slot.object ≡ o → IsPlaced (record { slots = with_value old.slots p slot; index = old.index }) (with_at o (Some slot) (slot_in old))
placed_back old agree o p was slot here there its = placed_over old (record { slots = with_value old.slots p slot; index = old.index }) agree o p slot here refl (Updates-with_value old.slots p slot (sym (ap (λ s. is_some s) there))) its

-- what is told of the places after a write of a field, where the call answered so
pub record IsWritten (old new : Places) (change : Set) (changed : Option ℕ) (answer : Bool) : Type 0 where
  pub found : answer ≡ has_slot_value change.field (slot_in old change.object)
  pub written : OnTrue answer (slot_in new ≡ with_at change.object (option_map (wrote change changed) (slot_in old change.object)) (slot_in old))
  pub unchanged : OnFalse answer (slot_in new ≡ slot_in old)
  pub agree : PlacesAgree new

-- a field of an object was written in its place
pub placed_written : (old : Places) → PlacesAgree old → (change : Set) (changed : Option ℕ) (p : ℕ) (was slot : Slot) (answer : Bool) → look nat_cmp old.index change.object ≡ Some p → Some was ≡ get old.slots p → answer ≡ has_value change.field was.standing → OnTrue answer (slot ≡ wrote change changed was) → OnFalse answer (slot ≡ was) → IsWritten old (record { slots = with_value old.slots p slot; index = old.index }) change changed answer
placed_written old agree change changed p was slot answer here there found written unchanged = by answer found written unchanged
  where
    o : ℕ
    o = change.object

    slot_is : slot_in old o ≡ Some was
    slot_is = ap (λ n. at_place old n) here ∙ sym there

    its : was.object ≡ o
    its = some_is (ap (λ s. object_at s) there ∙ agree.stands o p here)
      where
        or_zero : Option ℕ → ℕ
        or_zero None = 0
        or_zero (Some n) = n

        some_is : {a b : ℕ} → Some a ≡ Some b → a ≡ b
        some_is e = ap (λ n. or_zero n) e

    by : (b : Bool) → b ≡ has_value change.field was.standing → OnTrue b (slot ≡ wrote change changed was) → OnFalse b (slot ≡ was) → IsWritten old (record { slots = with_value old.slots p slot; index = old.index }) change changed b
    by true found written unchanged =
        let q = placed_back old agree o p was slot here there (ap (λ s. s.object) written ∙ its) in
        record {
          found = found ∙ sym (ap (λ s. has_slot_value change.field s) slot_is);
          written = q.slots_are ∙ (ap (λ s. with_at o (Some s) (slot_in old)) written ∙ sym (ap (λ s. with_at o (option_map (wrote change changed) s) (slot_in old)) slot_is));
          unchanged = tt;
          agree = q.agree;
        }
    by false found written unchanged =
        let q = placed_back old agree o p was slot here there (ap (λ s. s.object) unchanged ∙ its) in
        record {
          found = found ∙ sym (ap (λ s. has_slot_value change.field s) slot_is);
          written = tt;
          unchanged = q.slots_are ∙ (ap (λ s. with_at o (Some s) (slot_in old)) unchanged ∙ with_at_same o (Some was) (slot_in old) slot_is);
          agree = q.agree;
        }
