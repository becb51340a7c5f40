-- The server's store is the heap of the history.
use Rattle.std.specs.Prelude.{ℕ, ◌≡◌, ◌≢◌, Option, Some, None, List, length, slice_get}
use Rattle.dso_base.specs.declared.journal.Entry.{Entry}
use Rattle.dso_base.specs.declared.journal.Node.TheVariants.{Server}
use Rattle.dso_base.specs.declared.lock.ThreadId.{ThreadId}
use Rattle.dso_base.specs.declared.record.Body.{Body}
use Rattle.dso_base.specs.declared.request.Event.{Event}
use Rattle.dso_base.specs.declared.request.Request.{Request}
use Rattle.dso_plain.specs.History.{last_state}
use Rattle.dso_plain.specs.Possible.{IsOf}
use Rattle.dso_plain.specs.State.{PlainState, IsShared}
use Rattle.dso_law.specs.Entries.{entries_of}
use Rattle.dso_law.specs.ServerReadings.{counted}
use Rattle.dso_law.specs.Settings.{Settings}
use Rattle.dso_law.specs.Store.{stored}
use Rattle.dso_legal.specs.Committed.{committed}
use Rattle.dso_legal.specs.Lawful.{IsLawful}
use Rattle.dso_legal.specs.SoundProgram.{AsksSoundly}

-- the object is shared, and the body has its class, size and values
pub record IsHeapBody (o : ℕ) (body : Body) (s : PlainState) : Type 0 where
  pub shared : IsShared o s
  pub class : IsOf body.class (length body.values) (s.objects o)
  pub values : (f : ℕ) → s.heap (o, f) ≡ slice_get body.values f

-- a body that is there is so, and there is one where the object is shared
pub record IsHeapOf (o : ℕ) (at : Option Body) (s : PlainState) : Type 0 where
  pub each : (body : Body) → at ≡ Some body → IsHeapBody o body s
  pub all : IsShared o s → at ≢ None

-- The store is the heap: in a lawful journal of a sound program, the server has a body of exactly the
-- objects that are shared after the history, with the values that they have there.
abbrev pub StoreIsHeap : Type 0
StoreIsHeap = (p : Settings) (next : ThreadId → List Event → Option Request) → AsksSoundly p.shape next
    → (es : List Entry) → IsLawful p next es
    → (o : ℕ) → IsHeapOf o (stored p.shape o (counted (entries_of Server es))) (last_state p.shape (committed es))
