-- A client's copies as the server sends it an object that it asked for.
use Rattle.std.proofs.Common.{ℕ, ◌≡◌, refl, sym, ◌∙◌, ap, subst, Bool, true, false, cond, eqb, Some, List, [], ◌∷◌, ◌++◌, slice_get, length}
use Rattle.dso_base.specs.declared.journal.Entry.{Entry}
use Rattle.dso_base.specs.declared.lock.LockName.{LockName}
use Rattle.dso_base.specs.declared.message.Down.{Down}
use Rattle.dso_base.specs.declared.message.Down.TheVariants as down
use Rattle.dso_base.specs.declared.record.Body.{Body}
use Rattle.dso_base.specs.declared.shape.Shape.{Shape}
use Rattle.dso_base.specs.declared.value.ClassId.{ClassId}
use Rattle.dso_plain.specs.Past.{KeepsPast}
use Rattle.dso_plain.specs.Possible.{IsOf}
use Rattle.dso_plain.specs.State.{PlainState, IsShared, is_shared, guard_in}
use Rattle.dso_plain.proofs.keys.SameKeys.{same_number, number_self}
use Rattle.dso_law.specs.Copies.{is_resident, resident_by_taken}
use Rattle.dso_legal.specs.Agreement.{after}
use Rattle.dso_legal.specs.CopiesStand.{speaks_of, FieldCopy, field_by_taken, field_copy, FieldStands, class_copy_by, class_copy, ClassStands, CopiesStand}
use Rattle.dso_legal.proofs.copies.ClassMoves as class_moves
use Rattle.dso_legal.proofs.copies.CopiesForeign.{resident_after}
use Rattle.dso_legal.proofs.copies.CopiesGoOn.{each_append}
use Rattle.dso_legal.proofs.copies.FieldMoves as field
use Rattle.dso_legal.proofs.copies.FieldMoves.{apart}
use Rattle.dso_legal.proofs.copies.PastValues.{newest_stands}

-- The body is the object's in the state of the one heap, and the client doesn't have the object behind all in flight.
pub record Brings (c : ℕ) (body : Body) (s : PlainState) (ms : List Down) (own : List Entry) : Type 0 where
  pub past : KeepsPast s
  pub away : after (resident_by_taken body.object) ms (is_resident body.object own) ≡ false
  pub shared : IsShared body.object s
  pub class : IsOf body.class (length body.values) (s.objects body.object)
  pub values : (f : ℕ) → s.heap (body.object, f) ≡ slice_get body.values f

-- the two classes are one
same_class : (a b : ClassId × ℕ) → Some a ≡ Some b → a ≡ b
same_class a b e = cc

module _ (shape : Shape) (c : ℕ) (body : Body) (s : PlainState) (ms : List Down) (own : List Entry) (brings : Brings c body s ms own) (h : CopiesStand shape c s ms own) where
  -- the object itself
  module _ (f : ℕ) where
    abbrev l : LockName
    l = guard_in shape s body.object f

    abbrev z : FieldCopy
    z = after (field_by_taken l body.object f) ms (field_copy l body.object f own)

    value_is : field.ComesBehind l c body.object f s (down.Object body ∷ []) z
    value_is = record {
      along = (record { past = (h.field body.object f).past; unchanged = λ _. refl; absent = λ here. absurd (apart here (resident_after l body.object f ms (field_copy l body.object f own) ∙ brings.away)) }, tt);
      past = λ _ v e t its. newest_stands s brings.past body.object f v brings.shared (brings.values f ∙ (sym now ∙ e)) t;
      meets = λ _. now ∙ sym (brings.values f);
    }
      where
        now : cond (eqb body.object body.object) (slice_get body.values f) z.value ≡ slice_get body.values f
        now = ap (λ b. cond b (slice_get body.values f) z.value) (number_self body.object)

    field_brought : FieldStands l c body.object f s (ms ++ down.Object body ∷ []) (field_copy l body.object f own)
    field_brought = field.field_goes_on l c body.object f s s ms (down.Object body ∷ []) (field_copy l body.object f own) (λ v is. is) (h.field body.object f) value_is

  class_brought : ClassStands body.object s (ms ++ down.Object body ∷ []) (class_copy body.object own)
  class_brought = class_moves.class_goes_on body.object s s ms (down.Object body ∷ []) (class_copy body.object own) (record { shared = λ is. is; same = λ is. refl }) (h.class body.object)
      (record { along = ((h.class body.object).behind, tt); behind = record { shared = λ _. brings.shared; of = λ _ class held. of_class class held } })
    where
      of_class : (class : ClassId × ℕ) → cond (eqb body.object body.object) (Some (body.class, length body.values)) (after (class_copy_by body.object) ms (class_copy body.object own)).class ≡ Some class → IsOf class.0 class.1 (s.objects body.object)
      of_class class held = subst (λ (x : ClassId × ℕ). IsOf x.0 x.1 (s.objects body.object)) (same_class (body.class, length body.values) class (sym (ap (λ b. cond b (Some (body.class, length body.values)) (after (class_copy_by body.object) ms (class_copy body.object own)).class) (number_self body.object)) ∙ held)) brings.class

  -- another object
  module _ (o : ℕ) (other : eqb body.object o ≡ false) where
    field_other : (f : ℕ) → FieldStands (guard_in shape s o f) c o f s (ms ++ down.Object body ∷ []) (field_copy (guard_in shape s o f) o f own)
    field_other f = field.field_goes_on (guard_in shape s o f) c o f s s ms (down.Object body ∷ []) (field_copy (guard_in shape s o f) o f own) (λ v is. is) (h.field o f)
        (field.silent_field (guard_in shape s o f) c o f s (down.Object body ∷ []) (after (field_by_taken (guard_in shape s o f) o f) ms (field_copy (guard_in shape s o f) o f own)) (h.field o f).past (h.field o f).meets (other, tt))

    class_other : ClassStands o s (ms ++ down.Object body ∷ []) (class_copy o own)
    class_other = class_moves.class_goes_on o s s ms (down.Object body ∷ []) (class_copy o own) (record { shared = λ is. is; same = λ is. refl }) (h.class o)
        (class_moves.silent_behind o s (down.Object body ∷ []) (after (class_copy_by o) ms (class_copy o own)) (h.class o).behind (other, tt))

  -- The copies stand with the object behind all in flight.
  pub copies_after_object : CopiesStand shape c s (ms ++ down.Object body ∷ []) own
  copies_after_object = record {
    class = λ o. class_by o (eqb body.object o) refl;
    field = λ o f. field_by o f (eqb body.object o) refl;
    shared = λ o unshared. each_append (λ m. speaks_of o m ≡ false) ms (down.Object body ∷ []) (h.shared o unshared) (silent o unshared (eqb body.object o) refl, tt);
  }
    where
      class_by : (o : ℕ) (b : Bool) → eqb body.object o ≡ b → ClassStands o s (ms ++ down.Object body ∷ []) (class_copy o own)
      class_by o true is = subst (λ x. ClassStands x s (ms ++ down.Object body ∷ []) (class_copy x own)) (same_number body.object o is) class_brought
      class_by o false is = class_other o is

      field_by : (o f : ℕ) (b : Bool) → eqb body.object o ≡ b → FieldStands (guard_in shape s o f) c o f s (ms ++ down.Object body ∷ []) (field_copy (guard_in shape s o f) o f own)
      field_by o f true is = subst (λ x. FieldStands (guard_in shape s x f) c x f s (ms ++ down.Object body ∷ []) (field_copy (guard_in shape s x f) x f own)) (same_number body.object o is) (field_brought f)
      field_by o f false is = field_other o is f

      silent : (o : ℕ) → is_shared (s.objects o) ≡ false → (b : Bool) → eqb body.object o ≡ b → eqb body.object o ≡ false
      silent o unshared true is = absurd (apart (subst (λ x. IsShared x s) (same_number body.object o is) brings.shared) unshared)
      silent o unshared false is = is
