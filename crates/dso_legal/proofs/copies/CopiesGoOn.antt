-- A client's copies as the server sends messages that speak of no object.
use Rattle.std.specs.List.{AllByRecursion}
use Rattle.std.proofs.Common.{ℕ, ◌≡◌, refl, false, List, [], ◌∷◌, ◌++◌}
use Rattle.dso_base.specs.declared.journal.Entry.{Entry}
use Rattle.dso_base.specs.declared.lock.LockName.{LockName}
use Rattle.dso_base.specs.declared.message.Down.{Down}
use Rattle.dso_base.specs.declared.shape.Shape.{Shape}
use Rattle.dso_plain.specs.State.{PlainState, guard_in}
use Rattle.dso_legal.specs.Agreement.{after}
use Rattle.dso_legal.specs.CopiesStand.{speaks_of, field_by_taken, field_copy, class_copy_by, class_copy, CopiesStand}
use Rattle.dso_legal.proofs.copies.FieldMoves as field
use Rattle.dso_legal.proofs.copies.ClassMoves as class_moves

-- the message speaks of no object
abbrev pub IsSilent : Down → Type 0
IsSilent m = (o : ℕ) → speaks_of o m ≡ false

-- of this object no silent message speaks
pub none_speaks : (o : ℕ) (ms : List Down) → AllByRecursion IsSilent ms → AllByRecursion (λ m. speaks_of o m ≡ false) ms
none_speaks o [] silent = tt
none_speaks o (m ∷ ms) silent = (silent.0 o, none_speaks o ms silent.1)

-- what holds of each item of two lists
pub each_append : {X : Type 0} (P : X → Type 0) (xs ys : List X) → AllByRecursion P xs → AllByRecursion P ys → AllByRecursion P (xs ++ ys)
each_append P [] ys h k = k
each_append P (x ∷ xs) ys h k = (h.0, each_append P xs ys h.1 k)

-- The copies stand with silent messages behind those in flight.
pub copies_go_on : (shape : Shape) (c : ℕ) (s : PlainState) (ms more : List Down) (own : List Entry) → AllByRecursion IsSilent more → CopiesStand shape c s ms own → CopiesStand shape c s (ms ++ more) own
copies_go_on shape c s ms more own silent h = record {
  class = λ o. class_moves.class_goes_on o s s ms more (class_copy o own) (record { shared = λ is. is; same = λ is. refl }) (h.class o)
      (class_moves.silent_behind o s more (after (class_copy_by o) ms (class_copy o own)) (h.class o).behind (class_moves.silent_brings o more (none_speaks o more silent)));
  field = λ o f. let l : LockName = guard_in shape s o f in
      field.field_goes_on l c o f s s ms more (field_copy l o f own) (λ v is. is) (h.field o f)
      (field.silent_field l c o f s more (after (field_by_taken l o f) ms (field_copy l o f own)) (h.field o f).past (h.field o f).meets (none_speaks o more silent));
  shared = λ o unshared. each_append (λ m. speaks_of o m ≡ false) ms more (h.shared o unshared) (none_speaks o more silent);
}
