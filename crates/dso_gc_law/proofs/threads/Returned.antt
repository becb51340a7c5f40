-- A lease that an entry gives back is of a lock that the entry touches: a premise of the row on what a client sends.
use Rattle.std.specs.List.{list_any}
use Rattle.std.specs.Option.{option_map_or}
use Rattle.std.specs.Prelude.{ℕ, ◌≡◌, ◌⊎◌, Bool, true, false, Contains, Option, List, ◌∷◌}
use Rattle.dso_base.specs.declared.journal.Entry.{Entry}
use Rattle.dso_base.specs.declared.journal.Input.{Input}
use Rattle.dso_base.specs.declared.journal.Input.TheVariants as input
use Rattle.dso_base.specs.declared.lock.ThreadId.{ThreadId}
use Rattle.dso_base.specs.declared.request.Event.{Event}
use Rattle.dso_base.specs.declared.request.Request.{Request}
use Rattle.dso_base.specs.Naming.{request_names, event_names, up_names, down_names}
use Rattle.dso_law.specs.Settings.{Settings, threads_of}
use Rattle.dso_law.specs.Entries.{unsent}
use Rattle.dso_law.specs.ClientRun.{ClientRun, next_in}
use Rattle.dso_law.specs.ClientStep.{returns}

-- whether the input is a message taken that names the object
abbrev pub taken_names : Input → ℕ → Bool
taken_names (input.TookDown m) o = down_names m o
taken_names other o = false

-- The object is named by the entry's event, by the message that it takes, or by what a thread of the client asks for
-- next.
abbrev pub IsTouched : Settings → ℕ → (ThreadId → Option Request) → Entry → ℕ → Type 0
IsTouched p c later e o = (option_map_or (λ event. event_names event o) e.event false ≡ true)
    ⊎ ((taken_names e.input o ≡ true)
    ⊎ ((t : ThreadId) × Contains (threads_of p c) t × (option_map_or (λ r. request_names r o) (later t) false ≡ true)))

-- In a run of a client, the leases that an entry gives back name only so.
abbrev pub ReturnsNamed : Type 0
ReturnsNamed = (p : Settings) (c : ℕ) (next : ThreadId → List Event → Option Request) (e : Entry) (own : List Entry)
    → ClientRun p c next (e ∷ own) → (o : ℕ)
    → list_any (λ m. up_names m o) (returns p c (next_in next (e ∷ own)) (unsent e ∷ own)) ≡ true
    → IsTouched p c (next_in next (e ∷ own)) e o
