-- A client's core stands for a list of entries.
use Rattle.std.specs.List.{AllByRecursion}
use Rattle.std.specs.Prelude.{◌≡◌, ℕ, List}
use Rattle.dso_base.specs.declared.journal.Entry.{Entry}
use Rattle.dso_law.specs.Settings.{Settings}
use Rattle.dso_law.specs.Entries.{events_in}
use Rattle.dso_law.specs.ClientRun.{ClientRun, next_in}
use Rattle.dso_machine.specs.declared.code.Code.{Code}
use Rattle.dso_machine.specs.Next.{next_request}
use Rattle.dso_machine.specs.Standing.{ThreadStands}
use Rattle.dso_client.specs.declared.client_state.ClientState.{ClientState}
use Rattle.dso_client.specs.RunPoints.{RunPoint}
use Rattle.dso_client.specs.StateStands.{StateStands}

-- the client's point after the entries, where its threads run the code
abbrev pub point : Code → Settings → ℕ → List Entry → RunPoint
point code p c es = record { settings = p; client = c; next = next_in (next_request code) es; entries = es }

-- The client stands for its entries: they are a run of it; what it keeps stands for them; and so does each thread, for
-- its events in them.
pub record ClientStands (code : Code) (p : Settings) (c : ℕ) (kept : ClientState) (es : List Entry) : Type 0 where
  pub shape : p.shape ≡ code.shape
  pub run : ClientRun p c (next_request code) es
  pub parts : StateStands (point code p c es) kept
  pub threads : AllByRecursion (λ context. ThreadStands code context.id context.thread
      (events_in context.id es)) kept.contexts.items
