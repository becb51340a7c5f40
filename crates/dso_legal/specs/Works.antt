-- What a thread has in hand, and the state of the one heap: they tell the same.
use Rattle.std.specs.Prelude.{ℕ, ◌≡◌, ◌≤◌, ◌⊎◌, true, false, cond, is_some, Option, Some, None, List, length, slice_get}
use Rattle.dso_base.specs.Block.{Work, body_in, start, worked}
use Rattle.dso_base.specs.declared.lock.LockName.{LockName}
use Rattle.dso_base.specs.declared.lock.ThreadId.{ThreadId}
use Rattle.dso_base.specs.declared.record.Body.{Body}
use Rattle.dso_base.specs.declared.request.Event.{Event}
use Rattle.dso_base.specs.declared.shape.Shape.{Shape}
use Rattle.dso_plain.specs.KeyTests.{is_lock}
use Rattle.dso_plain.specs.State.{PlainState, IsPrivate, IsShared, opening, is_shared}
use Rattle.dso_plain.specs.History.{RunsButMarks, end_of, last_state}
use Rattle.dso_plain.specs.Touches.{AreActsOf}
use Rattle.dso_plain.specs.Possible.{IsOf}
use Rattle.dso_law.specs.Copies.{value_by_sets}
use Rattle.dso_law.specs.Threads.{Locks, Waiting, hold_in}
use Rattle.dso_legal.specs.OwnObjects.{count_bodies}

-- the state has the object of the body, of its class and size, with its values
pub record HasBody (body : Body) (s : PlainState) : Type 0 where
  pub class : IsOf body.class (length body.values) (s.objects body.object)
  pub values : (f : ℕ) → s.heap (body.object, f) ≡ slice_get body.values f

-- the bodies are those of the objects private to the thread
pub record ArePrivates (t : ThreadId) (bodies : List Body) (s : PlainState) : Type 0 where
  pub once : (o : ℕ) → count_bodies o bodies ≤ 1
  pub each : (o : ℕ) (body : Body) → body_in o bodies ≡ Some body → IsPrivate t o s × HasBody body s
  pub all : (o : ℕ) → IsPrivate t o s → is_some (body_in o bodies) ≡ true

-- an object that was shared at the block's start is what it was, but for the fields that the block set; and where a
-- field was not set, its past is what it was
pub record IsLeftBy (work : Work) (o : ℕ) (start_state s : PlainState) : Type 0 where
  pub object : s.objects o ≡ start_state.objects o
  pub heap : (f : ℕ) → s.heap (o, f) ≡ value_by_sets o f work.sets (start_state.heap (o, f))
  pub past : (f : ℕ) → value_by_sets o f work.sets None ≡ None → s.past (o, f) ≡ start_state.past (o, f)

-- What the thread has in hand tells what its block made of the state: its private objects; those published, which were
-- not shared before and are now; and the shared ones, which it left but for what it set.
pub record TellsWork (t : ThreadId) (work : Work) (start_state s : PlainState) : Type 0 where
  pub privates : ArePrivates t work.privates s
  pub once : (o : ℕ) → count_bodies o work.news ≤ 1
  pub news : (o : ℕ) (body : Body) → body_in o work.news ≡ Some body
      → IsShared o s × HasBody body s × (is_shared (start_state.objects o) ≡ false)
  pub shared : (o : ℕ) → IsShared o s → IsShared o start_state ⊎ (is_some (body_in o work.news) ≡ true)
  pub left : (o : ℕ) → IsShared o start_state → IsLeftBy work o start_state s
  pub sets : (o f : ℕ) → value_by_sets o f work.sets None ≡ None ⊎ IsShared o start_state

-- Works tell: where a run of the thread's events starts with its private objects in hand, the work that the events make
-- of them tells what the run made of the state.
abbrev pub WorksTell : Type 0
WorksTell = (shape : Shape) (t : ThreadId) (privates : List Body) (events : List Event) (h : List Event)
    → RunsButMarks shape h (opening shape) → ArePrivates t privates (last_state shape h)
    → AreActsOf t events → RunsButMarks shape events (last_state shape h)
    → TellsWork t (worked shape events (start privates)) (last_state shape h) (end_of shape events (last_state shape h))

-- the count of a wait on the lock, if the thread waits on it
abbrev pub wait_count : LockName → Option Waiting → Option ℕ
wait_count l None = None
wait_count l (Some waiting) = cond (is_lock l waiting.lock) (Some waiting.count) None

-- the state's monitors and waits of the thread are these locks
pub record HaveLocks (t : ThreadId) (locks : Locks) (s : PlainState) : Type 0 where
  pub holds : (l : LockName) → s.monitors (l, t) ≡ hold_in l locks.holds
  pub waits : (l : LockName) → s.asleep (l, t) ≡ wait_count l locks.waiting
