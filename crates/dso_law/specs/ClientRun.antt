-- Runs of one client: its entries alone, each allowed by the client rule. Entries stand with the newest first.
use Rattle.std.specs.Prelude.{ℕ, ◌≡◌, true, eqb, Option, List, [], ◌∷◌}
use Rattle.dso_base.specs.declared.journal.Entry.{Entry}
use Rattle.dso_base.specs.declared.lock.ThreadId.{ThreadId}
use Rattle.dso_base.specs.declared.request.Event.{Event}
use Rattle.dso_base.specs.declared.request.Request.{Request}
use Rattle.dso_law.specs.Settings.{Settings}
use Rattle.dso_law.specs.Entries.{events_in}
use Rattle.dso_law.specs.ClientStep.{ClientStep}

-- A program tells the next request of a thread after its events, the first of them first. Here: the next request of
-- each thread after the client's entries.
abbrev pub next_in : (ThreadId → List Event → Option Request) → List Entry → ThreadId → Option Request
next_in next es t = next t (events_in t es)

-- A run of the client: each entry follows those before it by the client rule.
abbrev pub ClientRun : Settings → ℕ → (ThreadId → List Event → Option Request) → List Entry → Type 0
ClientRun p c next [] = Unit {0}
ClientRun p c next (e ∷ es) = ClientRun p c next es × ClientStep p c (next_in next es) (next_in next (e ∷ es)) e es

-- two tables of next requests are the same for the threads of the client
abbrev pub AreSameFor : ℕ → (ThreadId → Option Request) → (ThreadId → Option Request) → Type 0
AreSameFor c next other = (t : ThreadId) → eqb t.client c ≡ true → next t ≡ other t
