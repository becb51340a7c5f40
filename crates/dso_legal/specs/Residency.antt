-- Which objects a client has: the client and the server say the same of each object, once all in flight is taken.
use Rattle.std.specs.List.{list_any}
use Rattle.std.specs.Prelude.{ℕ, ◌≡◌, Bool, true, false, cond, not, eqb, ◌&&◌, Option, List, [], ◌∷◌}
use Rattle.dso_base.specs.declared.journal.Entry.{Entry}
use Rattle.dso_base.specs.declared.journal.Node.TheVariants.{Server, Client}
use Rattle.dso_base.specs.declared.lock.ThreadId.{ThreadId}
use Rattle.dso_base.specs.declared.message.Down.{Down}
use Rattle.dso_base.specs.declared.message.Down.TheVariants as down
use Rattle.dso_base.specs.declared.message.Up.{Up}
use Rattle.dso_base.specs.declared.message.Up.TheVariants as up
use Rattle.dso_base.specs.declared.request.Event.{Event}
use Rattle.dso_base.specs.declared.request.Request.{Request}
use Rattle.dso_base.specs.declared.record.Set.{Set}
use Rattle.dso_law.specs.Settings.{Settings}
use Rattle.dso_law.specs.Entries.{entries_of, by_taken_up}
use Rattle.dso_law.specs.Channels.{up_in_flight, down_in_flight, IsFirst}
use Rattle.dso_law.specs.Threads.{work_of}
use Rattle.dso_law.specs.Copies.{is_among, is_resident, is_object_asked}
use Rattle.dso_law.specs.ServerReadings.{is_lost, counted, is_given_to}
use Rattle.dso_law.specs.Store.{holds_object}
use Rattle.dso_legal.specs.Agreement.{messages, Agree}
use Rattle.dso_legal.specs.Lawful.{IsLawful}
use Rattle.dso_legal.specs.OwnObjects.{published_by, was_published}

-- how an object stands with a client: of an id of the client's own that no record of it published yet; else absent,
-- asked for or resident
pub data Residency : Type 0 where
  Unpublished : Residency
  Absent : Residency
  Asked : Residency
  Resident : Residency

-- what isn't published stays so
abbrev pub unless_unpublished : Residency → Residency → Residency
unless_unpublished new Unpublished = Unpublished
unless_unpublished new s = new

-- a fault asks for the object, a flush drops it, a record with it among the news makes it resident
abbrev pub residency_up : ℕ → Up → Residency → Residency
residency_up o (up.Fault x) s = cond (eqb x o) (unless_unpublished Asked s) s
residency_up o (up.Flushed x) s = cond (eqb x o) (unless_unpublished Absent s) s
residency_up o (up.Commit txn) s = cond (is_among o txn.news) Resident s
residency_up o m s = s

-- the object makes it resident
abbrev pub residency_down : ℕ → Down → Residency → Residency
residency_down o (down.Object body) s = cond (eqb body.object o) (unless_unpublished Resident s) s
residency_down o m s = s

-- neither asked for nor resident
abbrev pub IsAway : Residency → Type 0
IsAway Unpublished = Unit {0}
IsAway Absent = Unit {0}
IsAway s = ⊥

-- whether one of the sets is of the object
abbrev pub is_set : ℕ → List Set → Bool
is_set o sets = list_any (λ set. eqb set.object o) sets

-- a fault may come where the object is away, a flush where it is resident, a record with it among the news where it
-- isn't published, and one that sets it where it is resident
abbrev pub MayMove : ℕ → Up → Residency → Type 0
MayMove o (up.Fault x) s = eqb x o ≡ true → IsAway s
MayMove o (up.Flushed x) s = eqb x o ≡ true → s ≡ Resident
MayMove o (up.Commit txn) s = (is_among o txn.news ≡ true → s ≡ Unpublished) × (is_set o txn.sets ≡ true → s ≡ Resident)
MayMove o m s = Unit {0}

-- the object may come where it is asked for
abbrev pub MayCome : ℕ → Down → Residency → Type 0
MayCome o (down.Object body) s = eqb body.object o ≡ true → s ≡ Asked
MayCome o m s = Unit {0}

-- what a message of client d makes of whether client c published it
abbrev pub published_from : ℕ → ℕ → ℕ → Up → Bool → Bool
published_from c o d m before = cond (eqb c d) (published_by o m before) before

-- whether the server took a record of the client that published the object
abbrev pub is_published_by : ℕ → ℕ → List Entry → Bool
is_published_by c o [] = false
is_published_by c o (e ∷ es) = by_taken_up (published_from c o) e.input (is_published_by c o es)

-- by whether the object is asked for and whether it is resident
abbrev pub asked_or_resident : Bool → Bool → Residency
asked_or_resident true resident = Asked
asked_or_resident false true = Resident
asked_or_resident false false = Absent

-- how the object stands at the client, where it is said whether its id is the client's own
abbrev pub residency_at : Bool → ℕ → List Entry → Residency
residency_at own o es = cond (own && not (was_published o es)) Unpublished
    (asked_or_resident (is_object_asked o es) (is_resident o es))

-- and how it stands with client c at the server
abbrev pub residency_with : Bool → ℕ → ℕ → List Entry → Residency
residency_with own c o es = cond (own && not (is_published_by c o es)) Unpublished
    (cond (holds_object c o es) Resident Absent)

-- whether the id was given to the client
abbrev pub is_own : ℕ → ℕ → List Entry → Bool
is_own c o es = is_given_to c o (counted (entries_of Server es))

-- The client and the server agree on the object: each fault in flight to the server stands where it is away, each
-- flush and each record that sets it where it is resident, each record that publishes it where it isn't published,
-- and it stands in flight to the client where it is asked for; once all is taken both say the same.
abbrev pub AgreeOnObject : ℕ → ℕ → List Entry → Type 0
AgreeOnObject c o es = Agree (MayMove o) (residency_up o) (MayCome o) (residency_down o)
    (messages (up_in_flight c es)) (messages (down_in_flight c es))
    (residency_with (is_own c o es) c o (counted (entries_of Server es)))
    (residency_at (is_own c o es) o (entries_of (Client c) es))

-- Residency agrees: in a lawful journal, for each client that isn't lost, both agree on each object.
abbrev pub ResidencyAgrees : Type 0
ResidencyAgrees = (p : Settings) (next : ThreadId → List Event → Option Request) (es : List Entry) → IsLawful p next es
    → (c o : ℕ) → is_lost c (entries_of Server es) ≡ false → AgreeOnObject c o es

-- how a message fits, at the server: a fault is of an object that the client doesn't hold, a flush of one that it
-- holds, and so is each set of a record
abbrev pub ObjectFitsUp : ℕ → Up → List Entry → Type 0
ObjectFitsUp c (up.Fault o) server = holds_object c o server ≡ false
ObjectFitsUp c (up.Flushed o) server = holds_object c o server ≡ true
ObjectFitsUp c (up.Commit txn) server = (o : ℕ) → is_set o txn.sets ≡ true → holds_object c o server ≡ true
ObjectFitsUp c m server = Unit {0}

-- and at the client: an object was asked for
abbrev pub ObjectFitsDown : Down → List Entry → Type 0
ObjectFitsDown (down.Object body) client = is_object_asked body.object client ≡ true
ObjectFitsDown m client = Unit {0}

-- the first message in flight of a client in each direction fits
pub record ObjectsFirst (c : ℕ) (es : List Entry) : Type 0 where
  pub ups : (m : Up) → IsFirst m (up_in_flight c es) → ObjectFitsUp c m (counted (entries_of Server es))
  pub downs : (m : Down) → IsFirst m (down_in_flight c es) → ObjectFitsDown m (entries_of (Client c) es)

-- Objects fit: in a lawful journal, for each client that isn't lost, a fault that comes is of an object that the client
-- doesn't hold, a flush that comes is of one that it holds, a record that comes sets what the client holds, and an
-- object that comes was asked for.
abbrev pub ObjectsFit : Type 0
ObjectsFit = (p : Settings) (next : ThreadId → List Event → Option Request) (es : List Entry) → IsLawful p next es
    → (c : ℕ) → is_lost c (entries_of Server es) ≡ false → ObjectsFirst c es

-- Changed objects stay: in a lawful journal, what the open block of a thread sets is resident at its client.
abbrev pub SetsAreResident : Type 0
SetsAreResident = (p : Settings) (next : ThreadId → List Event → Option Request) (es : List Entry) → IsLawful p next es
    → (t : ThreadId) (o : ℕ) → is_set o (work_of p.shape t (entries_of (Client t.client) es)).sets ≡ true
    → is_resident o (entries_of (Client t.client) es) ≡ true
