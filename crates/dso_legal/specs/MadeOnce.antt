-- Each object is made once, with an id that was given to its client.
use Rattle.std.specs.List.{list_any, AllByRecursion}
use Rattle.std.specs.Prelude.{ℕ, ◌<◌, ◌≡◌, Bool, true, false, cond, eqb, Option, Some, List, [], ◌∷◌}
use Rattle.dso_base.specs.declared.journal.Entry.{Entry}
use Rattle.dso_base.specs.declared.journal.Node.TheVariants.{Server, Client}
use Rattle.dso_base.specs.declared.lock.ThreadId.{ThreadId}
use Rattle.dso_base.specs.declared.request.Event.{Event}
use Rattle.dso_base.specs.declared.request.Event.TheVariants.{Act, Lost}
use Rattle.dso_base.specs.declared.request.Reply.{Reply}
use Rattle.dso_base.specs.declared.request.Reply.TheVariants.{Made}
use Rattle.dso_base.specs.declared.request.Request.{Request}
use Rattle.dso_base.specs.Following.{is_thread}
use Rattle.dso_plain.specs.History.{is_act_of}
use Rattle.dso_plain.specs.Touches.{MakesIn, NoCommonId}
use Rattle.dso_law.specs.Settings.{Settings}
use Rattle.dso_law.specs.Entries.{entries_of, by_event, events_in}
use Rattle.dso_law.specs.Records.{next_id}
use Rattle.dso_law.specs.ServerReadings.{counted, is_given_to}
use Rattle.dso_legal.specs.Lawful.{IsLawful}

-- an object that a reply made stands in front
abbrev pub objects_by_reply : Reply → List ℕ → List ℕ
objects_by_reply (Made o) objects = o ∷ objects
objects_by_reply reply objects = objects

-- an object that an act of any thread made stands in front
abbrev pub objects_by : Event → List ℕ → List ℕ
objects_by (Act t request reply woken) objects = objects_by_reply reply objects
objects_by (Lost client) objects = objects

-- the objects that a client's threads made, by its entries, the latest first
abbrev pub objects_made : List Entry → List ℕ
objects_made [] = []
objects_made (e ∷ es) = by_event objects_by e.event (objects_made es)

-- an object that an act of the thread made stands in front
abbrev pub objects_of_by : ThreadId → Event → List ℕ → List ℕ
objects_of_by t event objects = cond (is_act_of t event) (objects_by event objects) objects

-- the objects that the thread made, by its client's entries, the latest first
abbrev pub objects_of : ThreadId → List Entry → List ℕ
objects_of t [] = []
objects_of t (e ∷ es) = by_event (objects_of_by t) e.event (objects_of t es)

-- each number is above all behind it
abbrev pub Falls : List ℕ → Type 0
Falls [] = Unit {0}
Falls (n ∷ ns) = AllByRecursion (λ m. m < n) ns × Falls ns

-- by a client's entries: each object that it made has an id above those of all that it made before, and so has the next
pub record IdsRise (own : List Entry) : Type 0 where
  pub made : Falls (objects_made own)
  pub next : (o : ℕ) → next_id own ≡ Some o → AllByRecursion (λ m. m < o) (objects_made own)

-- whether a thread of the client made the object
abbrev pub is_made : ℕ → ℕ → List Entry → Bool
is_made c o es = list_any (eqb o) (objects_made (entries_of (Client c) es))

-- The ids of each client rise; those of its objects, and its next one, were given to it; no object is made by two
-- clients, nor by two threads; and no object that was made has an id that comes next. So a thread's new object was made
-- by nobody before.
pub record MadeOnce (es : List Entry) : Type 0 where
  pub rise : (c : ℕ) → IdsRise (entries_of (Client c) es)
  pub given : (c o : ℕ) → is_made c o es ≡ true → is_given_to c o (counted (entries_of Server es)) ≡ true
  pub next_given : (c o : ℕ) → next_id (entries_of (Client c) es) ≡ Some o
      → is_given_to c o (counted (entries_of Server es)) ≡ true
  pub by_one : (c d o : ℕ) → is_made c o es ≡ true → is_made d o es ≡ true → c ≡ d
  pub next_is_new : (c d o : ℕ) → next_id (entries_of (Client c) es) ≡ Some o → is_made d o es ≡ false
  pub apart : (t u : ThreadId) → is_thread t u ≡ false
      → NoCommonId (MakesIn (events_in t (entries_of (Client t.client) es)))
      (MakesIn (events_in u (entries_of (Client u.client) es)))

-- Objects are made once, in every lawful journal, by lost clients too.
abbrev pub ObjectsAreMadeOnce : Type 0
ObjectsAreMadeOnce = (p : Settings) (next : ThreadId → List Event → Option Request) (es : List Entry)
    → IsLawful p next es → MadeOnce es
