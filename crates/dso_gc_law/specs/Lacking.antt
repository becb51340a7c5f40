-- What a server may lack: bodies of garbage. The laws of such a server, whatever bodies it has. Entries stand with the
-- newest first.
use Rattle.std.specs.List.{list_any}
use Rattle.std.specs.Prelude.{ℕ, ◌≡◌, ◌≢◌, ◌⊎◌, ◌↔◌, Bool, true, false, cond, eqb, Contains, Option, None, List, ◌∷◌}
use Rattle.dso_base.specs.declared.journal.Entry.{Entry}
use Rattle.dso_base.specs.declared.journal.Node.TheVariants.{Server, Client}
use Rattle.dso_base.specs.declared.lock.ThreadId.{ThreadId}
use Rattle.dso_base.specs.declared.message.Up.{Up}
use Rattle.dso_base.specs.declared.record.Body.{Body}
use Rattle.dso_base.specs.declared.request.Event.{Event}
use Rattle.dso_base.specs.declared.request.Request.{Request}
use Rattle.dso_base.specs.declared.value.Value.{Value}
use Rattle.dso_base.specs.Block.{body_names}
use Rattle.dso_base.specs.Naming.{up_names}
use Rattle.dso_base.specs.Reached.{IsGarbage}
use Rattle.dso_machine.specs.Frames.{KeepsFrames}
use Rattle.dso_law.specs.Settings.{Settings, clients_of}
use Rattle.dso_law.specs.Channels.{up_in_flight}
use Rattle.dso_law.specs.Entries.{entries_of}
use Rattle.dso_law.specs.HeldBody.{held_body}
use Rattle.dso_law.specs.ServerReadings.{counted, is_lost}
use Rattle.dso_law.specs.Store.{stored}
use Rattle.dso_legal.specs.Agreement.{messages}
use Rattle.dso_legal.specs.Collection.{IsGarbageAfter, IsStart, is_kept}
use Rattle.dso_legal.specs.Lawful.{AllFollow}
use Rattle.dso_legal.specs.SoundProgram.{AsksSoundly}

-- of each object the server has the stored body or none
abbrev pub HasStoredOrNone : Settings → (ℕ → Option Body) → List Entry → Type 0
HasStoredOrNone p has es = (o : ℕ)
    → (has o ≡ stored p.shape o (counted (entries_of Server es))) ⊎ (has o ≡ None)

-- the object is stored and the server has no body of it
abbrev pub IsLacked : Settings → (ℕ → Option Body) → List Entry → ℕ → Type 0
IsLacked p has es o = (stored p.shape o (counted (entries_of Server es)) ≢ None) × (has o ≡ None)

-- an edge of a copy: a client that isn't lost holds the one object and its copy names the other
abbrev pub IsCopyEdge : Settings → List Entry → ℕ → ℕ → Type 0
IsCopyEdge p es a b =
    (c : ℕ) × (is_kept p es c ≡ true) × (body_names (held_body a (entries_of (Client c) es)) b ≡ true)

-- garbage by these starts, these edges and those of the bodies that the server has, among the objects of these bodies
abbrev pub IsGarbageBy : (ℕ → Option Body) → (ℕ → Bool) → (ℕ → ℕ → Bool) → ℕ → Type 0
IsGarbageBy has starts edges o = IsGarbage (λ x. has x ≢ None) (λ x. starts x ≡ true)
    (λ a b. (edges a b ≡ true) ⊎ (body_names (has a) b ≡ true)) o

module _ (p : Settings) (next : ThreadId → List Event → Option Request)
    (frames : ThreadId → List Event → List Value) where
  -- what the server lacks is garbage
  abbrev pub LacksOnlyGarbage : (ℕ → Option Body) → List Entry → Type 0
  LacksOnlyGarbage has es = (o : ℕ) → IsLacked p has es o → IsGarbageAfter p next frames es o

  -- these are the starts and the edges of copies after the entries
  pub record AreStartsAndEdges (starts : ℕ → Bool) (edges : ℕ → ℕ → Bool) (es : List Entry) : Type 0 where
    pub starts_so : (o : ℕ) → (starts o ≡ true) ↔ IsStart p next frames (is_kept p es) es o
    pub edges_so : (a b : ℕ) → (edges a b ≡ true) ↔ IsCopyEdge p es a b

  -- Once all garbage is swept the server has the stored bodies of all that isn't garbage, and lacks garbage alone, and
  -- all of it.
  pub record IsSweptClean (has : ℕ → Option Body) (es : List Entry) : Type 0 where
    pub stands : HasStoredOrNone p has es
    pub only : LacksOnlyGarbage has es
    pub all : (o : ℕ) → IsGarbageAfter p next frames es o → has o ≡ None

-- One entry more: a server that lacks only what it lacked before, and then lacked only garbage, lacks only garbage.
abbrev pub LackedStaysGarbage : Type 0
LackedStaysGarbage = (p : Settings) (next : ThreadId → List Event → Option Request)
    (frames : ThreadId → List Event → List Value) → KeepsFrames next frames → AsksSoundly p.shape next
    → (e : Entry) (es : List Entry) → AllFollow p next (e ∷ es)
    → (old new : ℕ → Option Body) → ((o : ℕ) → IsLacked p new (e ∷ es) o → IsLacked p old es o)
    → LacksOnlyGarbage p next frames old es → LacksOnlyGarbage p next frames new (e ∷ es)

-- A server that lacks only garbage has the stored body of each object that a message names, where this is in flight to
-- it from a client of the cluster that isn't lost.
abbrev pub NamedAreThere : Type 0
NamedAreThere = (p : Settings) (next : ThreadId → List Event → Option Request)
    (frames : ThreadId → List Event → List Value) (has : ℕ → Option Body) (es : List Entry)
    → HasStoredOrNone p has es → LacksOnlyGarbage p next frames has es
    → (c : ℕ) (m : Up) → Contains (messages (up_in_flight c es)) m
    → list_any (eqb c) (clients_of p) ≡ true → is_lost c (entries_of Server es) ≡ false
    → (o : ℕ) → up_names m o ≡ true → has o ≡ stored p.shape o (counted (entries_of Server es))

-- A server that lacks only garbage finds the rest of it by the bodies that it has: what is garbage by these is garbage
-- whose body it has.
abbrev pub GarbageIsFound : Type 0
GarbageIsFound = (p : Settings) (next : ThreadId → List Event → Option Request)
    (frames : ThreadId → List Event → List Value) (has : ℕ → Option Body) (es : List Entry)
    → HasStoredOrNone p has es → LacksOnlyGarbage p next frames has es
    → (starts : ℕ → Bool) (edges : ℕ → ℕ → Bool) → AreStartsAndEdges p next frames starts edges es
    → (o : ℕ) → IsGarbageBy has starts edges o ↔ ((has o ≢ None) × IsGarbageAfter p next frames es o)

-- Where it then drops the bodies of exactly these, it is swept clean.
abbrev pub SweptIsClean : Type 0
SweptIsClean = (p : Settings) (next : ThreadId → List Event → Option Request)
    (frames : ThreadId → List Event → List Value) (has : ℕ → Option Body) (es : List Entry)
    → HasStoredOrNone p has es → LacksOnlyGarbage p next frames has es
    → (starts : ℕ → Bool) (edges : ℕ → ℕ → Bool) → AreStartsAndEdges p next frames starts edges es
    → (swept : ℕ → Bool) → ((o : ℕ) → (swept o ≡ true) ↔ IsGarbageBy has starts edges o)
    → IsSweptClean p next frames (λ o. cond (swept o) None (has o)) es
