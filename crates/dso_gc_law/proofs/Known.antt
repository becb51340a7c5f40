-- What an entry may name: what paths reach before it, and what nobody has made yet. The rows of the law's induction, each
-- of one kind of things that an entry tells of.
use Rattle.std.specs.List.{list_any}
use Rattle.std.specs.Option.{option_map_or}
use Rattle.std.specs.Prelude.{ℕ, ◌≡◌, ◌⊎◌, Bool, true, false, eqb, Contains, Option, None, List, ◌∷◌}
use Rattle.dso_base.specs.declared.journal.Entry.{Entry}
use Rattle.dso_base.specs.declared.journal.Node.TheVariants.{Server, Client}
use Rattle.dso_base.specs.declared.lock.ThreadId.{ThreadId}
use Rattle.dso_base.specs.declared.request.Event.{Event}
use Rattle.dso_base.specs.declared.request.Request.{Request}
use Rattle.dso_base.specs.declared.value.Value.{Value}
use Rattle.dso_base.specs.Block.{body_names}
use Rattle.dso_base.specs.Naming.{event_names}
use Rattle.dso_law.specs.Settings.{Settings, clients_of, threads_of}
use Rattle.dso_law.specs.Entries.{entries_of}
use Rattle.dso_law.specs.HeldBody.{held_body}
use Rattle.dso_law.specs.ServerReadings.{counted, is_lost}
use Rattle.dso_law.specs.Store.{stored}
use Rattle.dso_legal.specs.ClassesKept.{class_made}
use Rattle.dso_legal.specs.Lawful.{AllFollow}
use Rattle.dso_legal.specs.Collection.{IsLive, thread_names}
use Rattle.dso_legal.specs.SoundProgram.{AsksSoundly}
use Rattle.dso_gc_law.specs.Garbage.{sent_names}

module _ (p : Settings) (next : ThreadId → List Event → Option Request) (frames : ThreadId → List Event → List Value)
    (kept : ℕ → Bool) where
  -- a path reaches the object after these entries, or nobody has made it by then
  abbrev pub IsKnown : List Entry → ℕ → Type 0
  IsKnown es o = IsLive p next frames kept es o ⊎ (class_made p.shape o es ≡ None)

  -- the clients of the cluster that aren't lost count
  abbrev pub CountsLiving : List Entry → Type 0
  CountsLiving es = (c : ℕ) → list_any (eqb c) (clients_of p) ≡ true → is_lost c (entries_of Server es) ≡ false
      → kept c ≡ true

  -- the entry is one of a client that counts, in a journal in which each follows those before it
  pub record IsOfKept (c : ℕ) (e : Entry) (es : List Entry) : Type 0 where
    pub follow : AllFollow p next (e ∷ es)
    pub node : e.node ≡ Client c
    pub counts : kept c ≡ true

  -- the entry is one of the server, in such a journal, of a program that asks soundly: what the server grants as it
  -- loses a client is wanted then by a thread
  pub record IsOfServer (e : Entry) (es : List Entry) : Type 0 where
    pub follow : AllFollow p next (e ∷ es)
    pub node : e.node ≡ Server
    pub living : CountsLiving es
    pub sound : AsksSoundly p.shape next

  -- what the event names
  abbrev pub EventIsKnown : Type 0
  EventIsKnown = (c : ℕ) (e : Entry) (es : List Entry) → IsOfKept c e es → (o : ℕ)
      → option_map_or (λ event. event_names event o) e.event false ≡ true → IsKnown es o

  -- what a thread of the client names after it
  abbrev pub ThreadsAreKnown : Type 0
  ThreadsAreKnown = (c : ℕ) (e : Entry) (es : List Entry) → IsOfKept c e es → (t : ThreadId) → Contains (threads_of p c) t
      → (o : ℕ) → thread_names p next frames t (e ∷ es) o ≡ true → IsKnown es o

  -- what the client's messages name
  abbrev pub ClientSendsKnown : Type 0
  ClientSendsKnown = (c : ℕ) (e : Entry) (es : List Entry) → IsOfKept c e es → (o : ℕ)
      → list_any (λ m. sent_names m o) e.sent ≡ true → IsKnown es o

  -- what the client's copies name after it, and did not before
  abbrev pub CopiesAreKnown : Type 0
  CopiesAreKnown = (c : ℕ) (e : Entry) (es : List Entry) → IsOfKept c e es → (a b : ℕ)
      → body_names (held_body a (entries_of (Client c) (e ∷ es))) b ≡ true
      → (body_names (held_body a (entries_of (Client c) es)) b ≡ true) ⊎ IsKnown es b

  -- what the server's messages name
  abbrev pub ServerSendsKnown : Type 0
  ServerSendsKnown = (e : Entry) (es : List Entry) → IsOfServer e es → (o : ℕ)
      → list_any (λ m. sent_names m o) e.sent ≡ true → IsKnown es o

  -- what the server's bodies name after it, and did not before
  abbrev pub StoredAreKnown : Type 0
  StoredAreKnown = (e : Entry) (es : List Entry) → IsOfServer e es → (a b : ℕ)
      → body_names (stored p.shape a (counted (entries_of Server (e ∷ es)))) b ≡ true
      → (body_names (stored p.shape a (counted (entries_of Server es))) b ≡ true) ⊎ IsKnown es b
