-- Reading from the front, with the first fault that is met.
use Rattle.std.specs.Prelude.{◌≡◌, ◌==◌, ℕ, ℤ, zero, suc, List, [], ◌∷◌, length, take, drop, Result, Ok, Err, nat_lt}
use Rattle.std.specs.Prelude.{Bool, true, false, Option, Some, None, leb, ◌&&◌, if◌then◌else◌}
use Rattle.std.specs.Int.{Width, w32, w64, byte_len, from_be_bytes, cast_signed}
use Rattle.dso_base.specs.declared.lock.Level.{Level}
use Rattle.dso_base.specs.declared.lock.Level.TheVariants.{Read, Write}
use Rattle.dso_base.specs.declared.lock.LockName.{LockName}
use Rattle.dso_base.specs.declared.lock.LockName.TheVariants.{Mon, Name}
use Rattle.dso_base.specs.declared.lock.ThreadId.{ThreadId}
use Rattle.dso_base.specs.declared.message.Down.{Down}
use Rattle.dso_base.specs.declared.message.Down.TheVariants as down
use Rattle.dso_base.specs.declared.message.Up.{Up}
use Rattle.dso_base.specs.declared.message.Up.TheVariants as up
use Rattle.dso_base.specs.declared.record.Body.{Body}
use Rattle.dso_base.specs.declared.record.Choice.{Choice}
use Rattle.dso_base.specs.declared.record.Choice.TheVariants as choice
use Rattle.dso_base.specs.declared.record.Ending.{Ending}
use Rattle.dso_base.specs.declared.record.Ending.TheVariants as ending
use Rattle.dso_base.specs.declared.record.Note.{Note}
use Rattle.dso_base.specs.declared.record.Set.{Set}
use Rattle.dso_base.specs.declared.record.Txn.{Txn}
use Rattle.dso_base.specs.declared.request.Fault.{Fault}
use Rattle.dso_base.specs.declared.request.Fault.TheVariants as fault
use Rattle.dso_base.specs.declared.value.ClassId.{ClassId}
use Rattle.dso_base.specs.declared.value.ClassId.TheVariants as class
use Rattle.dso_base.specs.declared.value.Kind.{Kind}
use Rattle.dso_base.specs.declared.value.Kind.TheVariants as kind
use Rattle.dso_base.specs.declared.value.Value.{Value}
use Rattle.dso_base.specs.declared.value.Value.TheVariants as value
use Rattle.dso_session.specs.declared.frame.Frame.{Frame}
use Rattle.dso_session.specs.declared.frame.Frame.TheVariants.{Carry, Hello}
use Rattle.dso_wire.specs.declared.fault.Wrong.{Wrong}
use Rattle.dso_wire.specs.declared.fault.Wrong.TheVariants as wrong
use Rattle.dso_wire.specs.declared.fault.ReadFault.{ReadFault}
use Rattle.dso_wire.specs.declared.fault.ReadFault.TheVariants as faults
use Rattle.dso_wire.specs.Cells.{Mark, Tag, Ranged}

infixl 10 ◌>>=◌
abbrev pub ◌>>=◌ : {A B : Type 0} → Result A Wrong → (A → Result B Wrong) → Result B Wrong
(Ok x) >>= f = f x
(Err e) >>= f = Err e

-- what a function returned, seen by view, is what reading gives, unless memory ran out
abbrev pub Fails : {Y : Type 0} → ReadFault → Result Y Wrong → Type 0
Fails (faults.NoMemory refused) read = Unit {0}
Fails (faults.Wrong w) read = read ≡ Err w

abbrev pub Gives : {X Y : Type 0} → (X → Y) → Result X ReadFault → Result Y Wrong → Type 0
Gives view (Ok x) read = read ≡ Ok (view x)
Gives view (Err e) read = Fails e read

-- A reader gives a value and the bytes behind it.
abbrev pub Reader : Type 0 → Type 0
Reader A = List ℕ → Result (A × List ℕ) Wrong

-- a byte that is wrong, told by how many bytes there are from it on
abbrev pub wrong_told : Mark → ℕ → Wrong
wrong_told Tag left = wrong.Tag left
wrong_told Ranged left = wrong.Range left

-- nothing is read
abbrev pub alone : {A : Type 0} → A → Reader A
alone x bytes = Ok (x, bytes)

-- one after the other
abbrev pub both : {A B : Type 0} → Reader A → Reader B → Reader (A × B)
both first second bytes = first bytes >>= λ x. second x.1 >>= λ y. Ok ((x.0, y.0), y.1)

-- what is made of it
abbrev pub made : {A B : Type 0} → (A → B) → Reader A → Reader B
made f reader bytes = reader bytes >>= λ x. Ok (f x.0, x.1)

abbrev pub number_at : Width → Reader ℕ
number_at w bytes = if nat_lt (length bytes) (byte_len w) then Err wrong.Short
    else Ok (from_be_bytes w (take (byte_len w) bytes), drop (byte_len w) bytes)

-- a byte within a range
abbrev pub ranged_at : ℕ → ℕ → Reader ℕ
ranged_at low high [] = Err wrong.Short
ranged_at low high (b ∷ bytes) = if leb low b && leb b high then Ok (b, bytes)
    else Err (wrong_told Ranged (suc (length bytes)))

-- a first byte, and what is read behind it
abbrev pub picked : {A : Type 0} → Mark → List (ℕ × Reader A) → ℕ → List ℕ → Result (A × List ℕ) Wrong
picked mark [] b bytes = Err (wrong_told mark (suc (length bytes)))
picked mark (one ∷ others) b bytes = if b == one.0 then one.1 bytes else picked mark others b bytes

abbrev pub one_of : {A : Type 0} → Mark → List (ℕ × Reader A) → Reader A
one_of mark ways [] = Err wrong.Short
one_of mark ways (b ∷ bytes) = picked mark ways b bytes

-- so many of them
unfoldable pub items_at : {A : Type 0} → Reader A → ℕ → Reader (List A)
items_at reader zero bytes = Ok ([], bytes)
items_at reader (suc n) bytes = made (λ x. x.0 ∷ x.1) (both reader (items_at reader n)) bytes

abbrev pub list_at : {A : Type 0} → Reader A → Reader (List A)
list_at reader bytes = number_at w32 bytes >>= λ n. items_at reader n.0 n.1

-- ---- each thing

unfoldable pub truth_at : Reader Bool
truth_at bytes = one_of Ranged ((0, alone false) ∷ (1, alone true) ∷ []) bytes

abbrev pub signed_at : Reader ℤ
signed_at bytes = made (λ n. cast_signed w64 n) (number_at w64) bytes

unfoldable pub value_at : Reader Value
value_at bytes = one_of Tag
    ((0, alone value.Null)
    ∷ (1, made value.Long signed_at)
    ∷ (2, made value.Bool truth_at)
    ∷ (3, made value.Text (number_at w32))
    ∷ (4, made value.Ref (number_at w64))
    ∷ []) bytes

unfoldable pub lock_at : Reader LockName
lock_at bytes = one_of Tag ((1, made Mon (number_at w64)) ∷ (2, made Name (number_at w32)) ∷ []) bytes

unfoldable pub level_at : Reader Level
level_at bytes = one_of Tag ((1, alone Read) ∷ (2, alone Write) ∷ []) bytes

unfoldable pub thread_at : Reader ThreadId
thread_at bytes = made (λ x. record { client = x.0; index = x.1 }) (both (ranged_at 1 16) (ranged_at 1 16)) bytes

unfoldable pub kind_at : Reader Kind
kind_at bytes = one_of Tag
    ((1, alone kind.Long)
    ∷ (2, alone kind.Bool)
    ∷ (3, alone kind.Text)
    ∷ (4, alone kind.Ref)
    ∷ []) bytes

unfoldable pub class_at : Reader ClassId
class_at bytes = one_of Tag
    ((1, made class.Plain (number_at w32))
    ∷ (2, made class.Array kind_at)
    ∷ (3, alone class.Roots)
    ∷ []) bytes

unfoldable pub body_at : Reader Body
body_at bytes = made (λ x. record { object = x.0; class = x.1.0; values = x.1.1 })
    (both (number_at w64) (both class_at (list_at value_at))) bytes

unfoldable pub set_at : Reader Set
set_at bytes = made (λ x. record { object = x.0; field = x.1.0; value = x.1.1 })
    (both (number_at w64) (both (number_at w32) value_at)) bytes

unfoldable pub choice_at : Reader Choice
choice_at bytes = one_of Tag
    ((1, made choice.Here thread_at)
    ∷ (2, alone choice.There)
    ∷ (3, alone choice.All)
    ∷ []) bytes

unfoldable pub note_at : Reader Note
note_at bytes = made (λ x. record { lock = x.0; choice = x.1 }) (both lock_at choice_at) bytes

unfoldable pub fault_at : Reader (Option Fault)
fault_at bytes = one_of Ranged
    ((0, alone None)
    ∷ (1, alone (Some fault.NullPointer))
    ∷ (2, alone (Some fault.NoSuchField))
    ∷ (3, alone (Some fault.BadValue))
    ∷ (4, alone (Some fault.BadIndex))
    ∷ (5, alone (Some fault.BadSize))
    ∷ (6, alone (Some fault.ZeroDivide))
    ∷ (7, alone (Some fault.StackOverflow))
    ∷ (8, alone (Some fault.UnlockedSharedObject))
    ∷ (9, alone (Some fault.WrongLock))
    ∷ (10, alone (Some fault.ReadOnly))
    ∷ (11, alone (Some fault.LockUpgrade))
    ∷ (12, alone (Some fault.IllegalMonitor))
    ∷ []) bytes

unfoldable pub ending_at : Reader Ending
ending_at bytes = one_of Tag
    ((1, made ending.Exit lock_at)
    ∷ (2, made ending.Wait lock_at)
    ∷ (3, made ending.End fault_at)
    ∷ (4, made ending.Timeout lock_at)
    ∷ []) bytes

unfoldable pub record_at : Reader Txn
record_at bytes = made (λ x. record {
  seq = x.0;
  thread = x.1.0;
  news = x.1.1.0;
  sets = x.1.1.1.0;
  outs = x.1.1.1.1.0;
  notes = x.1.1.1.1.1.0;
  ending = x.1.1.1.1.1.1;
})
    (both (number_at w64) (both thread_at (both (list_at body_at) (both (list_at set_at)
    (both (list_at value_at) (both (list_at note_at) ending_at)))))) bytes

unfoldable pub up_at : Reader Up
up_at bytes = one_of Tag
    ((1, alone up.IdAsk)
    ∷ (2, made up.Fault (number_at w64))
    ∷ (3, made up.Flushed (number_at w64))
    ∷ (4, made (λ x. up.Request x.0 x.1) (both lock_at level_at))
    ∷ (5, made (λ x. up.Return x.0 x.1) (both lock_at (list_at thread_at)))
    ∷ (6, made up.Commit record_at)
    ∷ []) bytes

unfoldable pub down_at : Reader Down
down_at bytes = one_of Tag
    ((1, made down.Ids (number_at w64))
    ∷ (2, made down.Object body_at)
    ∷ (3, made (λ x. down.Grant x.0 x.1) (both lock_at level_at))
    ∷ (4, made down.Recall lock_at)
    ∷ (5, made down.Ack (number_at w64))
    ∷ (6, made down.Changes (list_at set_at))
    ∷ (7, made (λ x. down.Wake x.0 x.1) (both lock_at thread_at))
    ∷ []) bytes

unfoldable pub carry_at : {M : Type 0} → Reader M → Reader (Frame M)
carry_at message bytes = made (λ x. Carry x.0 x.1.0 x.1.1.0 x.1.1.1.0 x.1.1.1.1)
    (both (number_at w32) (both (number_at w64) (both (number_at w64) (both (number_at w64) message)))) bytes

unfoldable pub hello_at : {M : Type 0} → Reader (Frame M)
hello_at bytes = made (λ x. Hello x.0 x.1.0 x.1.1) (both (number_at w32) (both (number_at w64) (number_at w64))) bytes

unfoldable pub frame_at : {M : Type 0} → ℕ → Reader M → Reader (Frame M)
frame_at direction message bytes = one_of Tag ((direction, carry_at message) ∷ (3, hello_at) ∷ []) bytes

abbrev pub up_frame_at : Reader (Frame Up)
up_frame_at bytes = frame_at 1 up_at bytes

abbrev pub down_frame_at : Reader (Frame Down)
down_frame_at bytes = frame_at 2 down_at bytes
