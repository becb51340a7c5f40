-- A client's copies stand where the one heap has lost another client: a loss leaves objects, their values and their pasts.
use Rattle.std.proofs.Common.{ℕ, List, [], ◌∷◌}
use Rattle.dso_base.specs.declared.journal.Entry.{Entry}
use Rattle.dso_base.specs.declared.lock.LockName.{LockName}
use Rattle.dso_base.specs.declared.message.Down.{Down}
use Rattle.dso_base.specs.declared.shape.Shape.{Shape}
use Rattle.dso_plain.specs.State.{PlainState, guard_in}
use Rattle.dso_plain.proofs.loss.RunsSurvive.{left}
use Rattle.dso_legal.specs.Agreement.{EachMay}
use Rattle.dso_legal.specs.CopiesStand.{FieldCopy, field_by_taken, MayTake, FieldStands, field_copy, ClassCopy, class_copy_by, IsSharedCopy, class_copy, CopiesStand}

module _ (c d : ℕ) (s : PlainState) where
  -- a field's copy along the messages
  field_along : (l : LockName) (o f : ℕ) (ms : List Down) (copy : FieldCopy) → EachMay (MayTake c o f s) (field_by_taken l o f) ms copy → EachMay (MayTake c o f (left d s)) (field_by_taken l o f) ms copy
  field_along l o f [] copy along = tt
  field_along l o f (m ∷ ms) copy along = (record { past = along.0.past; unchanged = along.0.unchanged; absent = along.0.absent }, field_along l o f ms (field_by_taken l o f m copy) along.1)

  field_stands : (l : LockName) (o f : ℕ) (ms : List Down) (copy : FieldCopy) → FieldStands l c o f s ms copy → FieldStands l c o f (left d s) ms copy
  field_stands l o f ms copy h = record { along = field_along l o f ms copy h.along; past = h.past; meets = h.meets }

  -- an object's class along them
  class_shared : (o : ℕ) (copy : ClassCopy) → IsSharedCopy o s copy → IsSharedCopy o (left d s) copy
  class_shared o copy h = record { shared = h.shared; of = h.of }

  class_along : (o : ℕ) (ms : List Down) (copy : ClassCopy) → EachMay (λ m before. IsSharedCopy o s before) (class_copy_by o) ms copy → EachMay (λ m before. IsSharedCopy o (left d s) before) (class_copy_by o) ms copy
  class_along o [] copy along = tt
  class_along o (m ∷ ms) copy along = (class_shared o copy along.0, class_along o ms (class_copy_by o m copy) along.1)

  -- The copies stand behind the loss.
  pub copies_lost : (shape : Shape) (ms : List Down) (own : List Entry) → CopiesStand shape c s ms own → CopiesStand shape c (left d s) ms own
  copies_lost shape ms own h = record {
    class = λ o. record { along = class_along o ms (class_copy o own) (h.class o).along; behind = class_shared o _ (h.class o).behind };
    field = λ o f. field_stands (guard_in shape s o f) o f ms (field_copy (guard_in shape s o f) o f own) (h.field o f);
    shared = h.shared;
  }
