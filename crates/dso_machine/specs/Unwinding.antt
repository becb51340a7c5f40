-- What a thread does with its locks: after a fault it leaves those that it has, the innermost first, and ends with the
-- fault; and it settles behind the exit of an entry at synchronous write.
use Rattle.std.specs.Prelude.{◌≡◌, ℕ, ◌≤◌, Bool, true, false, cond, List, [], ◌∷◌, ◌++◌, length, map, slice_get}
use Rattle.std.specs.Prelude.{Option, Some}
use Rattle.dso_base.specs.declared.lock.Grade.{Grade}
use Rattle.dso_base.specs.declared.lock.Grade.TheVariants as grade
use Rattle.dso_base.specs.declared.lock.Level.{Level}
use Rattle.dso_base.specs.declared.lock.LockName.{LockName}
use Rattle.dso_base.specs.declared.lock.ThreadId.{ThreadId}
use Rattle.dso_base.specs.declared.request.Event.{Event}
use Rattle.dso_base.specs.declared.request.Event.TheVariants.{Act, Lost}
use Rattle.dso_base.specs.declared.request.Fault.{Fault}
use Rattle.dso_base.specs.declared.request.Reply.{Reply}
use Rattle.dso_base.specs.declared.request.Reply.TheVariants.{Done}
use Rattle.dso_base.specs.declared.request.Request.{Request}
use Rattle.dso_base.specs.declared.request.Request.TheVariants.{New, Look, Get, Put, Enter, Exit, Wait, Tick, Timeout}
use Rattle.dso_base.specs.declared.request.Request.TheVariants.{Resume, Notify, NotifyAll, Print, End, Pause, Settle}
use Rattle.dso_base.specs.declared.value.Value.{Value}
use Rattle.dso_base.specs.Following.{Listed, FollowsProgram}
use Rattle.dso_machine.specs.declared.code.Code.{Code}
use Rattle.dso_machine.specs.declared.code.ThreadBody.{ThreadBody}
use Rattle.dso_machine.specs.Calls.{back_in}
use Rattle.dso_machine.specs.Next.{body_of, enough_for, finish, next_request, replies_in, whole}
use Rattle.dso_machine.specs.Outcome.{Environment, State, Outcome, Fails, Meaning, on_value, restored, leave}
use Rattle.dso_machine.specs.Outcome.{under_with}

-- ---- the locks of a thread

-- all but the innermost lock's
abbrev pub outer : {X : Type 0} → List X → List X
outer [] = []
outer (x ∷ stack) = stack

-- A stack with an item for each lock that a thread has, the innermost lock's first, after a request and its reply: an
-- entry that is answered Done puts its lock's item in front, and an exit takes the front one away.
abbrev pub stack_after_reply : {X : Type 0} → (LockName → X) → Request → Reply → List X → List X
stack_after_reply item (Enter l level) Done stack = item l ∷ stack
stack_after_reply item (Enter l level) r stack = stack
stack_after_reply item (Exit l) r stack = outer stack
stack_after_reply item (New class n) r stack = stack
stack_after_reply item (Look o) r stack = stack
stack_after_reply item (Get o f) r stack = stack
stack_after_reply item (Put o f v) r stack = stack
stack_after_reply item (Wait l) r stack = stack
stack_after_reply item (Tick l) r stack = stack
stack_after_reply item (Timeout l) r stack = stack
stack_after_reply item (Resume l) r stack = stack
stack_after_reply item (Notify l) r stack = stack
stack_after_reply item (NotifyAll l) r stack = stack
stack_after_reply item (Print v) r stack = stack
stack_after_reply item (End fault) r stack = stack
stack_after_reply item Pause r stack = stack
stack_after_reply item Settle r stack = stack

-- the locks after a request and its reply
abbrev pub locks_after_reply : Request → Reply → List LockName → List LockName
locks_after_reply q r locks = stack_after_reply (λ l. l) q r locks

-- The locks that a thread has after its events, the innermost first, by those that it had before them. A wait gives
-- its lock up until the Resume, which takes the lock again where it was, and before which the thread does nothing
-- with a lock: so the list stays.
abbrev pub locks_after : List LockName → List Event → List LockName
locks_after locks [] = locks
locks_after locks (Act thread q r woken ∷ events) = locks_after (locks_after_reply q r locks) events
locks_after locks (Lost client ∷ events) = locks_after locks events

-- ---- where the code itself is at a fault

-- a state with these replies left
abbrev pub with_replies : List Reply → State → State
with_replies rs at = record { environment = at.environment; moves = at.moves; replies = rs }

-- a lock that a thread has, and whether it was entered at synchronous write
pub record Hold : Type 0 where
  pub lock : LockName
  pub synchronous : Bool

-- whether this is synchronous write
abbrev pub is_synchronous : Grade → Bool
is_synchronous grade.Read = false
is_synchronous grade.Write = false
is_synchronous grade.Synchronous = true

-- the hold of a lock that was entered at this grade
abbrev pub hold_at : LockName → Grade → Hold
hold_at l grade = record { lock = l; synchronous = is_synchronous grade }

-- what may stand around a part of a program: its value is used, what was held before is held again, a caller's
-- environment comes back, a lock is left that was entered at this grade
pub data Layer : Type 0 where
  UsesValue : (Value → Meaning) → Layer
  HoldsAgain : List Value → Layer
  ReturnsTo : Environment → Layer
  LeavesLock : LockName → Grade → Layer

-- what the layer makes of a part's outcome
abbrev pub in_layer : Layer → Outcome → Outcome
in_layer (UsesValue f) o = on_value f o
in_layer (HoldsAgain outer) o = restored outer o
in_layer (ReturnsTo caller) o = back_in caller o
in_layer (LeavesLock l grade) o = leave l grade o

-- what all layers around a part make of its outcome, the innermost first
abbrev pub in_context : List Layer → Outcome → Outcome
in_context [] o = o
in_context (layer ∷ context) o = in_context context (in_layer layer o)

-- the holds that the layers end
abbrev pub holds_around : List Layer → List Hold
holds_around [] = []
holds_around (UsesValue f ∷ context) = holds_around context
holds_around (HoldsAgain outer ∷ context) = holds_around context
holds_around (ReturnsTo caller ∷ context) = holds_around context
holds_around (LeavesLock l grade ∷ context) = hold_at l grade ∷ holds_around context

-- the locks of holds
abbrev pub locks_of : List Hold → List LockName
locks_of holds = map (λ hold. hold.lock) holds

-- Whatever replies are still to come, a thread comes to what comes of a part that fails, in a context that leaves
-- these locks.
pub record IsAtFault (fault : Fault) (locks : List LockName) (o : List Reply → Outcome) : Type 0 where
  pub context : List Layer
  pub held : locks_of (holds_around context) ≡ locks
  pub at : State
  pub comes : (rs : List Reply) → o rs ≡ finish (in_context context (Fails fault (with_replies rs at)))

-- After these replies a thread's code is at the fault, for each number of moves that is enough.
pub record FailsAfter (code : Code) (body : ThreadBody) (past : List Reply) (fault : Fault) : Type 0 where
  pub locks : List LockName
  pub fails : (n : ℕ) → enough_for past ≤ n → IsAtFault fault locks (λ rs. whole code body n (past ++ rs))

-- ---- what follows

-- the events follow the thread's code, with replies that are listed
abbrev pub FollowsCode : Code → ThreadId → List Event → Type 0
FollowsCode code = FollowsProgram (next_request code) (Listed (next_request code))

-- what is asked after a fault: an exit of each lock, the innermost first, with Settle behind it where the lock was
-- entered at synchronous write, and then the end with the fault
abbrev pub unwinding : Fault → List Hold → List Request
unwinding fault [] = End (Some fault) ∷ []
unwinding fault (hold ∷ holds) =
    Exit hold.lock ∷ cond hold.synchronous (Settle ∷ unwinding fault holds) (unwinding fault holds)

-- Whatever replies are still to come, a thread comes to what comes of a part under this lock, which is entered at this
-- grade while some values are held, in a context.
pub record IsAtEntry (l : LockName) (grade : Grade) (o : List Reply → Outcome) : Type 0 where
  pub context : List Layer
  pub values : List Value
  pub part : Meaning
  pub at : State
  pub comes : (rs : List Reply) →
      o rs ≡ finish (in_context context (under_with values l grade part (with_replies rs at)))

-- an entry that is answered Done is at this grade in the code, where o is what comes of its reply and those after it
pub record IsAtGrade (o : List Reply → Outcome) (q : Request) (r : Reply) (grade : Grade) : Type 0 where
  pub entry : (l : LockName) (level : Level) → q ≡ Enter l level → r ≡ Done → IsAtEntry l grade o

-- the holds after a request and its reply, where an entry is at this grade
abbrev pub holds_after_reply : Grade → Request → Reply → List Hold → List Hold
holds_after_reply grade q r holds = stack_after_reply (λ l. hold_at l grade) q r holds

-- these are the holds after events, by those before them: each entry that is answered Done is at the grade at which the
-- code asks for it
abbrev pub HoldsAfter : (List Reply → Outcome) → List Hold → List Event → List Hold → Type 0
HoldsAfter o before [] after = after ≡ before
HoldsAfter o before (Act thread q r woken ∷ events) after = (grade : Grade) × IsAtGrade o q r grade ×
    HoldsAfter (λ rs. o (r ∷ rs)) (holds_after_reply grade q r before) events after
HoldsAfter o before (Lost client ∷ events) after = HoldsAfter o before events after

-- these are the holds of a thread of the code after its events, by some number of moves that is enough
pub record HoldsOf (code : Code) (t : ThreadId) (events : List Event) (holds : List Hold) : Type 0 where
  pub body : ThreadBody
  pub its : body_of t code.bodies ≡ Some body
  pub moves : ℕ
  pub enough : enough_for (replies_in events) ≤ moves
  pub after : HoldsAfter (whole code body moves) [] events holds
  pub locks : locks_of holds ≡ locks_after [] events

-- From these events on, the thread unwinds: after more events its next request is the next one of the unwinding of its
-- holds, and after all of it there is none.
pub record Unwinds (code : Code) (t : ThreadId) (events : List Event) (fault : Fault) : Type 0 where
  pub holds : List Hold
  pub its : HoldsOf code t events holds
  pub asks : (more : List Event) → FollowsCode code t (events ++ more)
      → next_request code t (events ++ more) ≡ slice_get (unwinding fault holds) (length more)

-- ---- settling

-- After an exit behind these events a thread settles next exactly where that lock's entry was at synchronous write.
pub record SettlesAsEntered (code : Code) (t : ThreadId) (events : List Event) (next : Option Request) : Type 0 where
  pub hold : Hold
  pub others : List Hold
  pub its : HoldsOf code t events (hold ∷ others)
  pub settles : hold.synchronous ≡ true → next ≡ Some Settle
  pub only_then : next ≡ Some Settle → hold.synchronous ≡ true

-- the last of the events is an exit that was answered Done
pub record AreBehindExit (events : List Event) : Type 0 where
  pub before : List Event
  pub thread : ThreadId
  pub lock : LockName
  pub woken : Option ThreadId
  pub is : events ≡ before ++ Act thread (Exit lock) Done woken ∷ []
