-- A client's copies, now and after each message in flight: past values, and once all is taken what the client's own
-- blocks leave in the one heap.
use Rattle.std.specs.List.{list_any, AllByRecursion}
use Rattle.std.specs.Prelude.{ℕ, ◌≡◌, ◌≢◌, Bool, true, false, eqb, Option, Some, None, List}
use Rattle.dso_base.specs.declared.journal.Entry.{Entry}
use Rattle.dso_base.specs.declared.lock.LockName.{LockName}
use Rattle.dso_base.specs.declared.lock.ThreadId.{ThreadId}
use Rattle.dso_base.specs.declared.message.Down.{Down}
use Rattle.dso_base.specs.declared.message.Down.TheVariants as down
use Rattle.dso_base.specs.declared.shape.Shape.{Shape}
use Rattle.dso_base.specs.declared.value.ClassId.{ClassId}
use Rattle.dso_base.specs.declared.value.Value.{Value}
use Rattle.dso_plain.specs.State.{PlainState, IsShared, is_shared, guard_in}
use Rattle.dso_plain.specs.Possible.{StandsFrom, IsOf}
use Rattle.dso_plain.specs.History.{end_of, last_state}
use Rattle.dso_law.specs.Settings.{Settings}
use Rattle.dso_law.specs.declared.readings.LockStanding.{LockStanding}
use Rattle.dso_law.specs.Leases.{standing, standing_down}
use Rattle.dso_law.specs.Copies.{is_resident, resident_by_taken, value_held, value_by_taken, class_held}
use Rattle.dso_law.specs.Copies.{class_by_taken, is_set_of}
use Rattle.dso_legal.specs.Agreement.{after, EachMay}
use Rattle.dso_legal.specs.AsMade.{as_made}
use Rattle.dso_legal.specs.PendingBlocks.{joined, pending}
use Rattle.dso_legal.specs.Residency.{is_set}

-- The state of the one heap as a client has it before its open blocks: after the history as made, and then its pending
-- blocks.
abbrev pub state_at : Settings → ℕ → List Entry → PlainState
state_at p c es = end_of p.shape (joined (pending c es)) (last_state p.shape (as_made es))

-- whether the message sets the field
abbrev pub sets_field : ℕ → ℕ → Down → Bool
sets_field o f (down.Changes sets) = list_any (is_set_of o f) sets
sets_field o f m = false

-- whether it brings the object
abbrev pub brings : ℕ → Down → Bool
brings o (down.Object body) = eqb body.object o
brings o m = false

-- whether it speaks of the object
abbrev pub speaks_of : ℕ → Down → Bool
speaks_of o (down.Object body) = eqb body.object o
speaks_of o (down.Changes sets) = is_set o sets
speaks_of o m = false

-- the value stands in the field's past, not before what any of the client's threads has seen of it
abbrev pub IsPastValue : ℕ → ℕ → ℕ → PlainState → Value → Type 0
IsPastValue c o f s v = (t : ThreadId) → t.client ≡ c → StandsFrom (s.seen (t, o, f)) v (s.past (o, f))

-- a client's copy of a field: whether the object is resident, the value held for the field, and how the field's guard
-- stands
pub record FieldCopy : Type 0 where
  pub resident : Bool
  pub value : Option Value
  pub guard : LockStanding

-- what a message taken makes of it
abbrev pub field_by_taken : LockName → ℕ → ℕ → Down → FieldCopy → FieldCopy
field_by_taken l o f m copy = record {
  resident = resident_by_taken o m copy.resident;
  value = value_by_taken o f m copy.value;
  guard = standing_down l m copy.guard;
}

-- while the object is resident, the copy is a past value
abbrev pub IsPastCopy : ℕ → ℕ → ℕ → PlainState → FieldCopy → Type 0
IsPastCopy c o f s copy = copy.resident ≡ true → (v : Value) → copy.value ≡ Some v → IsPastValue c o f s v

-- A message may come: the copy is a past value; no change of the field overtakes a lease of its guard; and no object
-- comes that is resident.
pub record MayTake (c o f : ℕ) (s : PlainState) (m : Down) (copy : FieldCopy) : Type 0 where
  pub past : IsPastCopy c o f s copy
  pub unchanged : copy.guard.lease ≢ None → sets_field o f m ≡ false
  pub absent : copy.resident ≡ true → brings o m ≡ false

-- A field's copy stands, where this lock is the field's guard, with these messages in flight: each may come, and once
-- all are taken the copy is a past value, and the heap's.
pub record FieldStands (l : LockName) (c o f : ℕ) (s : PlainState) (ms : List Down) (copy : FieldCopy) : Type 0 where
  pub along : EachMay (MayTake c o f s) (field_by_taken l o f) ms copy
  pub past : IsPastCopy c o f s (after (field_by_taken l o f) ms copy)
  pub meets : (after (field_by_taken l o f) ms copy).resident ≡ true
      → (after (field_by_taken l o f) ms copy).value ≡ s.heap (o, f)

-- by a client's entries
abbrev pub field_copy : LockName → ℕ → ℕ → List Entry → FieldCopy
field_copy l o f client = record
    { resident = is_resident o client; value = value_held o f client; guard = standing l client }

-- what a client knows of an object: whether it is resident, and the class and size held for it
pub record ClassCopy : Type 0 where
  pub resident : Bool
  pub class : Option (ClassId × ℕ)

-- what a message taken makes of it
abbrev pub class_copy_by : ℕ → Down → ClassCopy → ClassCopy
class_copy_by o m copy = record
    { resident = resident_by_taken o m copy.resident; class = class_by_taken o m copy.class }

-- while the object is resident, it is shared, and of the class and size
pub record IsSharedCopy (o : ℕ) (s : PlainState) (copy : ClassCopy) : Type 0 where
  pub shared : copy.resident ≡ true → IsShared o s
  pub of : copy.resident ≡ true → (class : ClassId × ℕ) → copy.class ≡ Some class → IsOf class.0 class.1 (s.objects o)

-- An object's class stands, with these messages in flight: it is so in front of each, and behind all.
pub record ClassStands (o : ℕ) (s : PlainState) (ms : List Down) (copy : ClassCopy) : Type 0 where
  pub along : EachMay (λ m before. IsSharedCopy o s before) (class_copy_by o) ms copy
  pub behind : IsSharedCopy o s (after (class_copy_by o) ms copy)

-- by a client's entries
abbrev pub class_copy : ℕ → List Entry → ClassCopy
class_copy o client = record { resident = is_resident o client; class = class_held o client }

-- The copies of a client stand, by the state of the one heap, the messages in flight to the client and the client's
-- entries: each object's class and each field; and nothing in flight speaks of an object that isn't shared.
pub record CopiesStand (shape : Shape) (c : ℕ) (s : PlainState) (ms : List Down) (client : List Entry) : Type 0 where
  pub class : (o : ℕ) → ClassStands o s ms (class_copy o client)
  pub field : (o f : ℕ) → FieldStands (guard_in shape s o f) c o f s ms (field_copy (guard_in shape s o f) o f client)
  pub shared : (o : ℕ) → is_shared (s.objects o) ≡ false → AllByRecursion (λ m. speaks_of o m ≡ false) ms
