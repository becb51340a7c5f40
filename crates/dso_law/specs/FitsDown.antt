-- Which messages of the server fit, at the client that takes them.
use Rattle.std.specs.List.{list_any, AllByRecursion}
use Rattle.std.specs.Prelude.{ℕ, suc, ◌+◌, ◌^◌, ◌<◌, ◌≤◌, ◌≡◌, ◌↔◌, true, false, Option, Some, None, List, [], ◌∷◌}
use Rattle.std.specs.Prelude.{length}
use Rattle.dso_base.specs.declared.journal.Entry.{Entry}
use Rattle.dso_base.specs.declared.lock.LockName.{LockName}
use Rattle.dso_base.specs.declared.lock.ThreadId.{ThreadId}
use Rattle.dso_base.specs.declared.message.Down.{Down}
use Rattle.dso_base.specs.declared.message.Down.TheVariants.{Ids, Object, Grant, Recall, Ack, Changes, Wake}
use Rattle.dso_base.specs.declared.record.Body.{Body}
use Rattle.dso_base.specs.declared.record.Set.{Set}
use Rattle.dso_base.specs.declared.record.Txn.{Txn}
use Rattle.dso_base.specs.declared.shape.Shape.{Shape}
use Rattle.dso_base.specs.declared.value.ClassId.{ClassId}
use Rattle.dso_base.specs.declared.value.ClassId.TheVariants as class
use Rattle.dso_base.specs.declared.value.Value.{Value}
use Rattle.dso_base.specs.Shape.{kind_of}
use Rattle.dso_base.specs.Value.{Fits}
use Rattle.dso_base.specs.Following.{is_thread}
use Rattle.dso_plain.specs.Possible.{CanBeMade}
use Rattle.dso_law.specs.Settings.{Settings, batch_size}
use Rattle.dso_law.specs.Threads.{Waiting, locks_of}
use Rattle.dso_law.specs.Copies.{is_resident, class_held, is_object_asked}
use Rattle.dso_law.specs.Leases.{is_asked_for}
use Rattle.dso_law.specs.ClientWaiters.{client_list, is_marked}
use Rattle.dso_law.specs.Records.{batches, is_batch_asked, unacked}

-- each value fits the kind of its field, the first being that of field f
abbrev pub FitFrom : Shape → ClassId → ℕ → List Value → Type 0
FitFrom shape class f [] = Unit {0}
FitFrom shape class f (v ∷ values) = Fits (kind_of shape class f) v × FitFrom shape class (suc f) values

-- there are as many fields: as an object of the class can have, one for each root
abbrev pub HasSize : Shape → ClassId → ℕ → Type 0
HasSize shape (class.Plain number) n = CanBeMade shape (class.Plain number) n
HasSize shape (class.Array kind) n = CanBeMade shape (class.Array kind) n
HasSize shape class.Roots n = n ≡ shape.roots

-- the class and values of a body fit the shape
abbrev pub FitsShape : Shape → Body → Type 0
FitsShape shape body = HasSize shape body.class (length body.values) × FitFrom shape body.class 0 body.values

-- a batch of ids: one is asked for, the first is at least 1 and over each id of the batches taken before, and the batch
-- ends within 64 bits
pub record FitsIds (first : ℕ) (es : List Entry) : Type 0 where
  pub asked : is_batch_asked es ≡ true
  pub above : 1 ≤ first
  pub new : AllByRecursion (λ before. before + batch_size ≤ first) (batches es)
  pub room : first + batch_size < 2 ^ 64

-- an object: it is asked for, of class Roots exactly where it is object 0, and fits the shape
pub record FitsObject (shape : Shape) (body : Body) (es : List Entry) : Type 0 where
  pub asked : is_object_asked body.object es ≡ true
  pub roots : (body.class ≡ class.Roots) ↔ (body.object ≡ 0)
  pub shaped : FitsShape shape body

-- an acknowledgement: the record is the least one that isn't acknowledged
abbrev pub FitsAck : ℕ → List Txn → Type 0
FitsAck seq [] = ⊥
FitsAck seq (txn ∷ txns) = seq ≡ txn.seq

-- the set names a field of the class and size, and its value fits it
abbrev pub FitsClass : Shape → Set → Option (ClassId × ℕ) → Type 0
FitsClass shape set None = ⊥
FitsClass shape set (Some class) = (set.field < class.1) × Fits (kind_of shape class.0 set.field) set.value

-- the change of a field: of a resident object it names a field and a value that fits
abbrev pub FitsChange : Shape → List Entry → Set → Type 0
FitsChange shape es set = is_resident set.object es ≡ true → FitsClass shape set (class_held set.object es)

-- the thread waits on this lock
abbrev pub IsWaitingOn : LockName → Option Waiting → Type 0
IsWaitingOn l None = ⊥
IsWaitingOn l (Some waiting) = waiting.lock ≡ l

-- a waking: the thread is one of the client's, waits on the lock, isn't marked and isn't in the client's list
pub record FitsWake (c : ℕ) (l : LockName) (t : ThreadId) (es : List Entry) : Type 0 where
  pub its : t.client ≡ c
  pub waits : IsWaitingOn l (locks_of t es).waiting
  pub unmarked : is_marked t es ≡ false
  pub unlisted : list_any (is_thread t) (client_list l es) ≡ false

-- Fits, at client c: the row of each message. A Recall fits always.
abbrev pub FitsDown : Settings → ℕ → Down → List Entry → Type 0
FitsDown p c (Ids first) es = FitsIds first es
FitsDown p c (Object body) es = FitsObject p.shape body es
FitsDown p c (Grant l level) es = is_asked_for l es ≡ true
FitsDown p c (Recall l) es = Unit {0}
FitsDown p c (Ack seq) es = FitsAck seq (unacked es)
FitsDown p c (Changes sets) es = AllByRecursion (FitsChange p.shape es) sets
FitsDown p c (Wake l t) es = FitsWake c l t es
