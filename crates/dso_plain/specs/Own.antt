-- What a run leaves as it was: the parts of a thread that does not act in it, and fields whose guard it does not touch
-- at Write.
use Rattle.std.specs.Prelude.{ℕ, ◌≡◌, List}
use Rattle.dso_base.specs.declared.lock.Level.TheVariants.{Write}
use Rattle.dso_base.specs.declared.lock.LockName.{LockName}
use Rattle.dso_base.specs.declared.lock.ThreadId.{ThreadId}
use Rattle.dso_base.specs.declared.request.Event.{Event}
use Rattle.dso_base.specs.declared.shape.Shape.{Shape}
use Rattle.dso_plain.specs.State.{PlainState, IsPrivate, IsShared, is_mine, guard_in}
use Rattle.dso_plain.specs.History.{RunsButMarks, end_of}
use Rattle.dso_plain.specs.Touches.{TouchesIn, AreActsOfOthers}

-- the thread's own parts are the same in r as in s
pub record LeavesOwn (t : ThreadId) (s r : PlainState) : Type 0 where
  pub monitors : (l : LockName) → r.monitors (l, t) ≡ s.monitors (l, t)
  pub asleep : (l : LockName) → r.asleep (l, t) ≡ s.asleep (l, t)
  pub made : r.made t ≡ s.made t
  pub seen : (o f : ℕ) → r.seen (t, o, f) ≡ s.seen (t, o, f)
  pub output : r.output t ≡ s.output t
  pub ended : r.ended t ≡ s.ended t
  pub lost : (client : ℕ) → r.lost client ≡ s.lost client
  pub mine : (o : ℕ) → is_mine t r o ≡ is_mine t s o
  pub objects : (o : ℕ) → IsPrivate t o s → r.objects o ≡ s.objects o
  pub heap : (o f : ℕ) → IsPrivate t o s → r.heap (o, f) ≡ s.heap (o, f)

-- Own: acts of other threads, whatever is marked, leave a thread's own parts as they were.
abbrev pub Own : Type 0
Own = (shape : Shape) (t : ThreadId) (es : List Event) (s : PlainState)
    → RunsButMarks shape es s → AreActsOfOthers t es → LeavesOwn t s (end_of shape es s)

-- a shared object is as it was, and so are the value and the past of its field
pub record LeavesField (o f : ℕ) (s r : PlainState) : Type 0 where
  pub object : r.objects o ≡ s.objects o
  pub heap : r.heap (o, f) ≡ s.heap (o, f)
  pub past : r.past (o, f) ≡ s.past (o, f)

-- Guarded: a run, whatever is marked, that does not touch the guard of a shared object's field at Write leaves the
-- field as it was.
abbrev pub Guarded : Type 0
Guarded = (shape : Shape) (es : List Event) (s : PlainState) (o f : ℕ)
    → RunsButMarks shape es s → IsShared o s → (TouchesIn shape es s (guard_in shape s o f) Write → ⊥)
    → LeavesField o f s (end_of shape es s)
