-- What a thread's frames hold after its events, and the law that they are kept: after one more event nothing is held
-- that was not held before, but for what the reply tells.
use Rattle.std.specs.List.{fold, list_any}
use Rattle.std.specs.Option.{option_map_or}
use Rattle.std.specs.Prelude.{◌≡◌, ◌≢◌, ◌⊎◌, ℕ, Bool, true, false, ◌||◌, eqb, List, [], ◌∷◌, ◌++◌}
use Rattle.std.specs.Prelude.{Option, None, Some, reverse}
use Rattle.dso_base.specs.declared.lock.ThreadId.{ThreadId}
use Rattle.dso_base.specs.declared.request.Event.{Event}
use Rattle.dso_base.specs.declared.request.Event.TheVariants.{Act}
use Rattle.dso_base.specs.declared.request.Reply.{Reply}
use Rattle.dso_base.specs.declared.request.Request.{Request}
use Rattle.dso_base.specs.declared.request.Request.TheVariants.{New, Look, Get, Put, Enter, Exit, Wait, Tick, Timeout}
use Rattle.dso_base.specs.declared.request.Request.TheVariants.{Resume, Notify, NotifyAll, Print, End, Pause, Settle}
use Rattle.dso_base.specs.declared.value.Value.{Value}
use Rattle.dso_base.specs.declared.value.Value.TheVariants as value
use Rattle.dso_base.specs.Block.{has_reference}
use Rattle.dso_base.specs.Naming.{reply_names, request_names}
use Rattle.dso_machine.specs.declared.code.Code.{Code}
use Rattle.dso_machine.specs.declared.code.ThreadBody.{ThreadBody}
use Rattle.dso_machine.specs.declared.continuation.Now.{Now}
use Rattle.dso_machine.specs.declared.continuation.Task.{Task}
use Rattle.dso_machine.specs.declared.machine.Core.{Core}
use Rattle.dso_machine.specs.declared.thread.Thread.{Thread}
use Rattle.dso_machine.specs.Calls.{held_by}
use Rattle.dso_machine.specs.Continuation.{held_at, task_values}
use Rattle.dso_machine.specs.Next.{body_of, enough_for, replies_in, whole}
use Rattle.dso_machine.specs.Outcome.{Outcome, Wants, monitor_of}
use Rattle.dso_machine.specs.Standing.{IsOver, asked}

-- the values that are held where a part wants a reply: in the body that runs its object and its variables, and what is
-- held for what comes after
abbrev pub frames_of : Outcome → List Value
frames_of (Wants q env) = held_by env
frames_of other = []

-- those after these replies
abbrev pub frames_by : Code → List Reply → Option ThreadBody → List Value
frames_by code replies None = []
frames_by code replies (Some body) = frames_of (whole code body (enough_for replies) replies)

-- The values that a thread's frames hold after its events, the first of them first; none after its end, and where there
-- is no such thread.
abbrev pub frames_after : Code → ThreadId → List Event → List Value
frames_after code t events = frames_by code (replies_in events) (body_of t code.bodies)

-- whether a thread holds the object after its events: its frames do, or its next request names it
abbrev pub holds_then : (ThreadId → List Event → Option Request) → (ThreadId → List Event → List Value) → ThreadId
    → List Event → ℕ → Bool
holds_then next frames t events o = has_reference o (frames t events)
    || option_map_or (λ request. request_names request o) (next t events) false

-- Frames are kept: after one more event a thread holds object 0, what it held before, or what the reply tells.
abbrev pub KeepsFrames : (ThreadId → List Event → Option Request) → (ThreadId → List Event → List Value) → Type 0
KeepsFrames next frames = (t : ThreadId) (events : List Event) (thread : ThreadId) (request : Request) (r : Reply)
    (woken : Option ThreadId) (o : ℕ)
    → holds_then next frames t (events ++ Act thread request r woken ∷ []) o ≡ true
    → (o ≡ 0) ⊎ ((holds_then next frames t events o || reply_names r o) ≡ true)

-- ---- what is held, in a list

-- the values that a request names
abbrev pub request_values : Request → List Value
request_values (New class n) = []
request_values (Look object) = value.Ref object ∷ []
request_values (Get object place) = value.Ref object ∷ []
request_values (Put object place v) = value.Ref object ∷ v ∷ []
request_values (Enter l level) = monitor_of l
request_values (Exit l) = monitor_of l
request_values (Wait l) = monitor_of l
request_values (Tick l) = monitor_of l
request_values (Timeout l) = monitor_of l
request_values (Resume l) = monitor_of l
request_values (Notify l) = monitor_of l
request_values (NotifyAll l) = monitor_of l
request_values (Print v) = v ∷ []
request_values (End fault) = []
request_values Pause = []
request_values Settle = []

-- these values, and those of each task
abbrev pub with_tasks : List Value → List Task → List Value
with_tasks held tasks = fold (λ before task. before ++ task_values task) held tasks

-- All that a thread holds that is about to do this, where this request is out: in its frame, for what it does with the
-- reply, in the tasks of its continuation, the last one first, and in the request.
abbrev pub all_held : Now → Core → Request → List Value
all_held a core q =
    with_tasks ((core.frame.this ∷ core.frame.vars) ++ held_at a) (reverse core.tasks) ++ request_values q

-- the object that a value is, if it is one
abbrev pub object_in : Value → List ℕ
object_in (value.Ref object) = object ∷ []
object_in v = []

-- the objects of these values, each as often as it stands there
abbrev pub objects_of : List Value → List ℕ
objects_of values = fold (λ before v. before ++ object_in v) [] values

-- whether the object is in the list
abbrev pub is_listed : ℕ → List ℕ → Bool
is_listed o objects = list_any (λ listed. eqb listed o) objects

-- The thread is at rest: its request is out, or it has ended.
abbrev pub IsAtRest : Thread → Type 0
IsAtRest thread = (asked thread ≢ None) ⊎ IsOver thread
