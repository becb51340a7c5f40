-- The bytes of each thing that goes over a connection, and what has such bytes.
use Rattle.std.specs.Prelude.{ℕ, ℤ, ◌<◌, ◌≤◌, ◌^◌, List, [], ◌∷◌, length, Bool, true, false, Option, Some, None}
use Rattle.std.specs.Prelude.{FitsSigned}
use Rattle.std.specs.List.{AllByRecursion}
use Rattle.std.specs.Int.{w32, w64, cast_unsigned}
use Rattle.dso_base.specs.declared.lock.Level.{Level}
use Rattle.dso_base.specs.declared.lock.Level.TheVariants.{Read, Write}
use Rattle.dso_base.specs.declared.lock.LockName.{LockName}
use Rattle.dso_base.specs.declared.lock.LockName.TheVariants.{Mon, Name}
use Rattle.dso_base.specs.declared.lock.ThreadId.{ThreadId}
use Rattle.dso_base.specs.declared.message.Down.{Down}
use Rattle.dso_base.specs.declared.message.Down.TheVariants as down
use Rattle.dso_base.specs.declared.message.Up.{Up}
use Rattle.dso_base.specs.declared.message.Up.TheVariants as up
use Rattle.dso_base.specs.declared.record.Body.{Body}
use Rattle.dso_base.specs.declared.record.Choice.{Choice}
use Rattle.dso_base.specs.declared.record.Choice.TheVariants as choice
use Rattle.dso_base.specs.declared.record.Ending.{Ending}
use Rattle.dso_base.specs.declared.record.Ending.TheVariants as ending
use Rattle.dso_base.specs.declared.record.Note.{Note}
use Rattle.dso_base.specs.declared.record.Set.{Set}
use Rattle.dso_base.specs.declared.record.Txn.{Txn}
use Rattle.dso_base.specs.declared.request.Fault.{Fault}
use Rattle.dso_base.specs.declared.request.Fault.TheVariants as fault
use Rattle.dso_base.specs.declared.value.ClassId.{ClassId}
use Rattle.dso_base.specs.declared.value.ClassId.TheVariants as class
use Rattle.dso_base.specs.declared.value.Kind.{Kind}
use Rattle.dso_base.specs.declared.value.Kind.TheVariants as kind
use Rattle.dso_base.specs.declared.value.Value.{Value}
use Rattle.dso_base.specs.declared.value.Value.TheVariants as value
use Rattle.dso_session.specs.declared.frame.Frame.{Frame}
use Rattle.dso_session.specs.declared.frame.Frame.TheVariants.{Carry, Hello}
use Rattle.dso_wire.specs.Cells.{Cell, tag, ranged, number, listed, ◌▸◌}

abbrev pub truth_cells : Bool → List Cell
truth_cells false = ranged 0 ∷ []
truth_cells true = ranged 1 ∷ []

abbrev pub signed_cells : ℤ → List Cell
signed_cells z = number w64 (cast_unsigned w64 z)

abbrev pub value_cells : Value → List Cell
value_cells value.Null = tag 0 ∷ []
value_cells (value.Long n) = tag 1 ∷ signed_cells n
value_cells (value.Bool b) = tag 2 ∷ truth_cells b
value_cells (value.Text t) = tag 3 ∷ number w32 t
value_cells (value.Ref o) = tag 4 ∷ number w64 o

abbrev pub lock_cells : LockName → List Cell
lock_cells (Mon o) = tag 1 ∷ number w64 o
lock_cells (Name n) = tag 2 ∷ number w32 n

abbrev pub level_cells : Level → List Cell
level_cells Read = tag 1 ∷ []
level_cells Write = tag 2 ∷ []

abbrev pub thread_cells : ThreadId → List Cell
thread_cells t = ranged t.client ∷ ranged t.index ∷ []

abbrev pub kind_cells : Kind → List Cell
kind_cells kind.Long = tag 1 ∷ []
kind_cells kind.Bool = tag 2 ∷ []
kind_cells kind.Text = tag 3 ∷ []
kind_cells kind.Ref = tag 4 ∷ []

abbrev pub class_cells : ClassId → List Cell
class_cells (class.Plain n) = tag 1 ∷ number w32 n
class_cells (class.Array k) = tag 2 ∷ kind_cells k
class_cells class.Roots = tag 3 ∷ []

abbrev pub body_cells : Body → List Cell
body_cells b = number w64 b.object ▸ class_cells b.class ▸ listed value_cells b.values

abbrev pub set_cells : Set → List Cell
set_cells s = number w64 s.object ▸ number w32 s.field ▸ value_cells s.value

abbrev pub choice_cells : Choice → List Cell
choice_cells (choice.Here t) = tag 1 ∷ thread_cells t
choice_cells choice.There = tag 2 ∷ []
choice_cells choice.All = tag 3 ∷ []

abbrev pub note_cells : Note → List Cell
note_cells n = lock_cells n.lock ▸ choice_cells n.choice

-- 0 for none, and the faults by their numbers
abbrev pub fault_number : Option Fault → ℕ
fault_number None = 0
fault_number (Some fault.NullPointer) = 1
fault_number (Some fault.NoSuchField) = 2
fault_number (Some fault.BadValue) = 3
fault_number (Some fault.BadIndex) = 4
fault_number (Some fault.BadSize) = 5
fault_number (Some fault.ZeroDivide) = 6
fault_number (Some fault.StackOverflow) = 7
fault_number (Some fault.UnlockedSharedObject) = 8
fault_number (Some fault.WrongLock) = 9
fault_number (Some fault.ReadOnly) = 10
fault_number (Some fault.LockUpgrade) = 11
fault_number (Some fault.IllegalMonitor) = 12

abbrev pub fault_cells : Option Fault → List Cell
fault_cells x = ranged (fault_number x) ∷ []

abbrev pub ending_cells : Ending → List Cell
ending_cells (ending.Exit l) = tag 1 ∷ lock_cells l
ending_cells (ending.Wait l) = tag 2 ∷ lock_cells l
ending_cells (ending.End x) = tag 3 ∷ fault_cells x
ending_cells (ending.Timeout l) = tag 4 ∷ lock_cells l

abbrev pub record_cells : Txn → List Cell
record_cells r = number w64 r.seq ▸ thread_cells r.thread ▸ listed body_cells r.news ▸ listed set_cells r.sets
    ▸ listed value_cells r.outs ▸ listed note_cells r.notes ▸ ending_cells r.ending

abbrev pub up_cells : Up → List Cell
up_cells up.IdAsk = tag 1 ∷ []
up_cells (up.Fault o) = tag 2 ∷ number w64 o
up_cells (up.Flushed o) = tag 3 ∷ number w64 o
up_cells (up.Request l level) = tag 4 ∷ lock_cells l ▸ level_cells level
up_cells (up.Return l threads) = tag 5 ∷ lock_cells l ▸ listed thread_cells threads
up_cells (up.Commit r) = tag 6 ∷ record_cells r

abbrev pub down_cells : Down → List Cell
down_cells (down.Ids first) = tag 1 ∷ number w64 first
down_cells (down.Object b) = tag 2 ∷ body_cells b
down_cells (down.Grant l level) = tag 3 ∷ lock_cells l ▸ level_cells level
down_cells (down.Recall l) = tag 4 ∷ lock_cells l
down_cells (down.Ack s) = tag 5 ∷ number w64 s
down_cells (down.Changes sets) = tag 6 ∷ listed set_cells sets
down_cells (down.Wake l t) = tag 7 ∷ lock_cells l ▸ thread_cells t

-- a message with its head, behind the byte of its direction
abbrev pub carry_cells : ℕ → ℕ → ℕ → ℕ → ℕ → List Cell → List Cell
carry_cells direction epoch nth seen clock message = tag direction ∷ number w32 epoch ▸ number w64 nth
    ▸ number w64 seen ▸ number w64 clock ▸ message

abbrev pub hello_cells : ℕ → ℕ → ℕ → List Cell
hello_cells epoch seen clock = tag 3 ∷ number w32 epoch ▸ number w64 seen ▸ number w64 clock

abbrev pub frame_cells : {M : Type 0} → ℕ → (M → List Cell) → Frame M → List Cell
frame_cells direction message (Carry epoch nth seen clock m) = carry_cells direction epoch nth seen clock (message m)
frame_cells direction message (Hello epoch seen clock) = hello_cells epoch seen clock

abbrev pub up_frame_cells : Frame Up → List Cell
up_frame_cells frame = frame_cells 1 up_cells frame

abbrev pub down_frame_cells : Frame Down → List Cell
down_frame_cells frame = frame_cells 2 down_cells frame

-- ---- what has bytes

abbrev pub IsValue : Value → Type 0
IsValue value.Null = Unit {0}
IsValue (value.Long n) = FitsSigned w64 n
IsValue (value.Bool b) = Unit {0}
IsValue (value.Text t) = t < 2 ^ 32
IsValue (value.Ref o) = o < 2 ^ 64

abbrev pub IsLock : LockName → Type 0
IsLock (Mon o) = o < 2 ^ 64
IsLock (Name n) = n < 2 ^ 32

abbrev pub IsLevel : Level → Type 0
IsLevel level = Unit {0}

abbrev pub IsNumber : ℕ → Type 0
IsNumber n = (1 ≤ n) × (n ≤ 16)

abbrev pub IsThread : ThreadId → Type 0
IsThread t = IsNumber t.client × IsNumber t.index

abbrev pub IsList : {A : Type 0} → (A → Type 0) → List A → Type 0
IsList IsItem items = (length items < 2 ^ 32) × AllByRecursion IsItem items

abbrev pub IsClass : ClassId → Type 0
IsClass (class.Plain n) = n < 2 ^ 32
IsClass (class.Array k) = Unit {0}
IsClass class.Roots = Unit {0}

abbrev pub IsBody : Body → Type 0
IsBody b = (b.object < 2 ^ 64) × (IsClass b.class × IsList IsValue b.values)

abbrev pub IsSet : Set → Type 0
IsSet s = (s.object < 2 ^ 64) × ((s.field < 2 ^ 32) × IsValue s.value)

abbrev pub IsChoice : Choice → Type 0
IsChoice (choice.Here t) = IsThread t
IsChoice choice.There = Unit {0}
IsChoice choice.All = Unit {0}

abbrev pub IsNote : Note → Type 0
IsNote n = IsLock n.lock × IsChoice n.choice

abbrev pub IsEnding : Ending → Type 0
IsEnding (ending.Exit l) = IsLock l
IsEnding (ending.Wait l) = IsLock l
IsEnding (ending.End x) = Unit {0}
IsEnding (ending.Timeout l) = IsLock l

abbrev pub IsRecord : Txn → Type 0
IsRecord r = (r.seq < 2 ^ 64) × (IsThread r.thread × (IsList IsBody r.news × (IsList IsSet r.sets
    × (IsList IsValue r.outs × (IsList IsNote r.notes × IsEnding r.ending)))))

abbrev pub IsUp : Up → Type 0
IsUp up.IdAsk = Unit {0}
IsUp (up.Fault o) = o < 2 ^ 64
IsUp (up.Flushed o) = o < 2 ^ 64
IsUp (up.Request l level) = IsLock l × IsLevel level
IsUp (up.Return l threads) = IsLock l × IsList IsThread threads
IsUp (up.Commit r) = IsRecord r

abbrev pub IsDown : Down → Type 0
IsDown (down.Ids first) = first < 2 ^ 64
IsDown (down.Object b) = IsBody b
IsDown (down.Grant l level) = IsLock l × IsLevel level
IsDown (down.Recall l) = IsLock l
IsDown (down.Ack s) = s < 2 ^ 64
IsDown (down.Changes sets) = IsList IsSet sets
IsDown (down.Wake l t) = IsLock l × IsThread t

abbrev pub IsFrame : {M : Type 0} → (M → Type 0) → Frame M → Type 0
IsFrame IsMessage (Carry epoch nth seen clock m) = (epoch < 2 ^ 32) × ((nth < 2 ^ 64)
    × ((seen < 2 ^ 64) × ((clock < 2 ^ 64) × IsMessage m)))
IsFrame IsMessage (Hello epoch seen clock) = (epoch < 2 ^ 32) × ((seen < 2 ^ 64) × (clock < 2 ^ 64))
