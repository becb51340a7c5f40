-- In which order a client's objects were used, and which of them is flushed first.
use Rattle.std.specs.Prelude.{ℕ, ◌≡◌, ◌≤◌, ◌⊎◌, Bool, true, false, cond, not, eqb, is_some, Option, Some, None}
use Rattle.std.specs.Prelude.{List, [], ◌∷◌, ◌++◌, filter, take}
use Rattle.dso_base.specs.declared.journal.Entry.{Entry}
use Rattle.dso_base.specs.declared.journal.Input.{Input}
use Rattle.dso_base.specs.declared.journal.Input.TheVariants.{Flush}
use Rattle.dso_base.specs.declared.lock.ThreadId.{ThreadId}
use Rattle.dso_base.specs.declared.request.Event.{Event}
use Rattle.dso_base.specs.declared.request.Event.TheVariants.{Act, Lost}
use Rattle.dso_base.specs.declared.request.Request.{Request}
use Rattle.dso_base.specs.declared.request.Request.TheVariants.{Look, Get, Put}
use Rattle.dso_lookup.specs.Search.{is_listed}
use Rattle.dso_law.specs.Settings.{Settings}
use Rattle.dso_law.specs.Entries.{by_event}
use Rattle.dso_law.specs.Threads.{own}
use Rattle.dso_law.specs.ClientStep.{is_flushable, is_full}

-- the object that a request looks at, reads or writes
abbrev pub object_used : Request → Option ℕ
object_used (Look o) = Some o
object_used (Get o f) = Some o
object_used (Put o f v) = Some o
object_used request = None

-- the objects without this one
abbrev pub all_but : ℕ → List ℕ → List ℕ
all_but o objects = filter (λ x. not (eqb x o)) objects

-- this object first, then the others, no more than so many
abbrev pub used_first : ℕ → ℕ → List ℕ → List ℕ
used_first most o objects = take most (o ∷ all_but o objects)

-- the use of an object, if one was used; that of the thread's own objects doesn't count
abbrev pub used_by_thread : Settings → ThreadId → Option ℕ → List Entry → List ℕ → List ℕ
used_by_thread p t None es before = before
used_by_thread p t (Some o) es before = cond (is_some (own p.shape t o es)) before (used_first p.resident o before)

-- an answered look, get or put uses its object, whatever the reply
abbrev pub used_by_event : Settings → List Entry → Event → List ℕ → List ℕ
used_by_event p es (Act t request reply woken) before = used_by_thread p t (object_used request) es before
used_by_event p es (Lost c) before = before

-- a flush takes its object out
abbrev pub used_by_flush : Input → List ℕ → List ℕ
used_by_flush (Flush o) before = all_but o before
used_by_flush input before = before

-- Order of use: the objects that the client's threads looked at, got or put and that weren't the thread's own, the one
-- used last first, no more than the client is to keep resident, without those flushed since.
abbrev pub use_order : Settings → List Entry → List ℕ
use_order p [] = []
use_order p (e ∷ es) = used_by_flush e.input (by_event (used_by_event p es) e.event (use_order p es))

-- the flushable object of least id that isn't in the order of use
pub record IsUnusedVictim (p : Settings) (c o : ℕ) (es : List Entry) : Type 0 where
  pub flushable : is_flushable p c o es ≡ true
  pub unused : is_listed o (use_order p es) ≡ false
  pub least : (x : ℕ) → is_flushable p c x es ≡ true → is_listed x (use_order p es) ≡ false → o ≤ x

-- the last flushable object of the order of use, where each flushable one is in it
pub record IsOldestVictim (p : Settings) (c o : ℕ) (es : List Entry) : Type 0 where
  pub flushable : is_flushable p c o es ≡ true
  pub all_used : (x : ℕ) → is_flushable p c x es ≡ true → is_listed x (use_order p es) ≡ true
  pub later : List ℕ
  pub earlier : List ℕ
  pub stands : use_order p es ≡ later ++ o ∷ earlier
  pub last : (x : ℕ) → is_flushable p c x es ≡ true → is_listed x earlier ≡ false

-- Which object a client flushes: where more are resident than it is to keep, a flushable one that isn't in the order of
-- use before one that is.
pub record IsFlushVictim (p : Settings) (c : ℕ) (es : List Entry) (o : ℕ) : Type 0 where
  pub full : is_full p es ≡ true
  pub chosen : IsUnusedVictim p c o es ⊎ IsOldestVictim p c o es
