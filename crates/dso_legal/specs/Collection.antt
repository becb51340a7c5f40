-- Collection: which objects of the server's graph no path reaches any longer. Entries stand with the newest first.
use Rattle.std.specs.List.{list_any}
use Rattle.std.specs.Prelude.{ℕ, ◌≡◌, ◌≢◌, ◌⊎◌, Bool, true, not, eqb, ◌&&◌, ◌||◌, Option, None, List}
use Rattle.std.specs.Prelude.{◌++◌, length, ◌*◌, suc}
use Rattle.dso_base.specs.declared.journal.Entry.{Entry}
use Rattle.dso_base.specs.declared.journal.Node.TheVariants.{Server, Client}
use Rattle.dso_base.specs.declared.lock.ThreadId.{ThreadId}
use Rattle.dso_base.specs.declared.request.Event.{Event}
use Rattle.dso_base.specs.declared.request.Request.{Request}
use Rattle.dso_base.specs.declared.value.Value.{Value}
use Rattle.dso_base.specs.Block.{body_names}
use Rattle.dso_base.specs.Naming.{work_names, up_names, down_names}
use Rattle.dso_base.specs.Reached.{Reaches, IsGarbage}
use Rattle.dso_machine.specs.Frames.{holds_then}
use Rattle.dso_law.specs.Settings.{Settings, clients_of, threads_of}
use Rattle.dso_law.specs.Entries.{entries_of, events_in}
use Rattle.dso_law.specs.Channels.{up_in_flight, down_in_flight}
use Rattle.dso_law.specs.HeldBody.{held_body}
use Rattle.dso_law.specs.ServerReadings.{counted, is_lost}
use Rattle.dso_law.specs.Store.{stored}
use Rattle.dso_law.specs.Threads.{work_of}
use Rattle.dso_legal.specs.Agreement.{messages}

-- whether a message in flight between the server and client c names the object, one of a flush aside
abbrev pub is_in_flight : ℕ → List Entry → ℕ → Bool
is_in_flight c es o = list_any (λ m. up_names m o) (messages (up_in_flight c es))
    || list_any (λ m. down_names m o) (messages (down_in_flight c es))

-- the clients of the cluster that aren't lost
abbrev pub is_kept : Settings → List Entry → ℕ → Bool
is_kept p es c = list_any (eqb c) (clients_of p) && not (is_lost c (entries_of Server es))

-- A program tells the next request of a thread after its events, and the values that its frames hold then.
module _ (p : Settings) (next : ThreadId → List Event → Option Request)
    (frames : ThreadId → List Event → List Value) where
  -- whether a thread names the object, by its client's entries: its frames hold it, its next request names it, or it
  -- has it in hand
  abbrev pub thread_holds : ThreadId → List Entry → ℕ → Bool
  thread_holds t its o = holds_then next frames t (events_in t its) o || work_names (work_of p.shape t its) o

  -- so by those of the journal
  abbrev pub thread_names : ThreadId → List Entry → ℕ → Bool
  thread_names t es o = thread_holds t (entries_of (Client t.client) es) o

  -- whether client c names the object: a thread of it does, or a message in flight between it and the server
  abbrev pub client_names : ℕ → List Entry → ℕ → Bool
  client_names c es o = list_any (λ t. thread_names t es o) (threads_of p c) || is_in_flight c es o

  -- which clients count
  module _ (kept : ℕ → Bool) where
    -- a start: object 0, and what a client that counts names
    abbrev pub IsStart : List Entry → ℕ → Type 0
    IsStart es o = (o ≡ 0) ⊎ ((c : ℕ) × (kept c ≡ true) × (client_names c es o ≡ true))

    -- an edge: from an object to what its body at the server names, and to what its copy at a client that counts names
    abbrev pub IsEdge : List Entry → ℕ → ℕ → Type 0
    IsEdge es a b = (body_names (stored p.shape a (counted (entries_of Server es))) b ≡ true)
        ⊎ ((c : ℕ) × (kept c ≡ true) × (body_names (held_body a (entries_of (Client c) es)) b ≡ true))

    -- a path of edges reaches the object
    abbrev pub IsLive : List Entry → ℕ → Type 0
    IsLive es o = Reaches (IsStart es) (IsEdge es) o

  -- Garbage after these entries: it is in the server's graph, and no path reaches it from what the clients that aren't
  -- lost name.
  abbrev pub IsGarbageAfter : List Entry → ℕ → Type 0
  IsGarbageAfter es o = IsGarbage (λ x. stored p.shape x (counted (entries_of Server es)) ≢ None)
      (IsStart (is_kept p es) es) (IsEdge (is_kept p es) es) o

  -- Swept by a run that collects after every n entries: garbage after so many first entries of the journal, a multiple
  -- of n that isn't 0.
  pub record IsSwept (n : ℕ) (es : List Entry) (o : ℕ) : Type 0 where
    pub times : ℕ
    pub later : List Entry
    pub first : List Entry
    pub whole : es ≡ later ++ first
    pub count : length first ≡ suc times * n
    pub garbage : IsGarbageAfter first o
