-- Cells before their first entry.
use Rattle.std.specs.Prelude.{ℕ, suc, ◌≡◌, eqb, false, None, List, [], ◌∷◌, filter, length}
use Rattle.dso_base.specs.declared.journal.Node.TheVariants.{Client, Server}
use Rattle.dso_base.specs.declared.journal.Trigger.{Trigger}
use Rattle.dso_base.specs.declared.journal.Node.{Node}
use Rattle.dso_law.specs.Settings.{Settings, threads_of}
use Rattle.dso_log.specs.Logs.{Log}
use Rattle.dso_machine.specs.declared.code.Code.{Code}
use Rattle.dso_machine.specs.declared.code.ThreadBody.{ThreadBody}
use Rattle.dso_machine.specs.Sound as machine
use Rattle.dso_client.specs.ClientStands.{ClientStands}
use Rattle.dso_client.specs.Openings.{first_threads}
use Rattle.dso_port.specs.Ports.{IsNew}
use Rattle.dso_session.specs.declared.session.Role.TheVariants as role
use Rattle.dso_server.specs.Answering.{given_by}
use Rattle.dso_server.specs.Lacking.{LacksNothing}
use Rattle.dso_server.specs.ServerStands.{ServerStands}
use Rattle.dso_server.specs.Threads.{RunsThreadsOf}
use Rattle.dso_server.specs.Triggers.{AreTriggersOf}
use Rattle.dso_cell.specs.declared.client_cell.ClientCell.{ClientCell}
use Rattle.dso_cell.specs.declared.server_cell.ServerCell.{ServerCell}
use Rattle.dso_cell.specs.declared.server_end.ServerEnd.{ServerEnd}
use Rattle.dso_cell.specs.ClientCells.{ClientBounds}

-- how many threads of the client have a body among these
abbrev pub count_in : ℕ → List ThreadBody → ℕ
count_in c bodies = length (filter (λ body. eqb body.thread.client c) bodies)

-- how many threads of the client the code has
abbrev pub threads_in : Code → ℕ → ℕ
threads_in code c = length (filter (λ t. eqb t.client c) (machine.threads_of code))

-- What the nodes of a run know: the code's shape and threads, so many clients, which are to keep so many objects
-- resident, and these losses and breaks. The threads of a client are its first ones.
pub record AreSettings (code : Code) (count most : ℕ) (to_lose to_break : List Trigger) (p : Settings) : Type 0 where
  pub shape : p.shape ≡ code.shape
  pub clients : p.clients ≡ count
  pub resident : p.resident ≡ most
  pub losses : p.losses ≡ to_lose
  pub breaks : p.breaks ≡ to_break
  pub runs : RunsThreadsOf code p
  pub threads : (c : ℕ) → threads_of p c ≡ first_threads c (threads_in code c)

-- the log of a node that has no entry yet
abbrev pub new_log : Node → Log
new_log node = record { node = node; entries = []; has_room = false }

-- The cell of client c before its first entry.
pub record IsNewCell (code : Code) (resident c : ℕ) (cell : ClientCell) : Type 0 where
  pub number : cell.number ≡ c
  pub whole : cell.spent ≡ None
  pub core : (p : Settings) → p.shape ≡ code.shape → p.resident ≡ resident
      → threads_of p c ≡ first_threads c (threads_in code c) → ClientStands code p c cell.core []
  pub log : cell.log ≡ new_log (Client c)
  pub rejoins : cell.rejoins ≡ 0
  pub port : IsNew role.Client cell.port
  pub bounds : ClientBounds code cell

-- The server's end of client c's connection before the server's first entry.
pub record IsNewEnd (losses breaks : List Trigger) (c : ℕ) (end : ServerEnd) : Type 0 where
  pub port : IsNew role.Server end.port
  pub triggers : AreTriggersOf c losses breaks end.triggers

-- so are these, the first of them that of this client
abbrev pub AreNewCells : Code → ℕ → ℕ → List ClientCell → Type 0
AreNewCells code resident c [] = Unit {0}
AreNewCells code resident c (cell ∷ cells) = IsNewCell code resident c cell × AreNewCells code resident (suc c) cells

abbrev pub AreNewEnds : List Trigger → List Trigger → ℕ → List ServerEnd → Type 0
AreNewEnds losses breaks c [] = Unit {0}
AreNewEnds losses breaks c (end ∷ ends) = IsNewEnd losses breaks c end × AreNewEnds losses breaks (suc c) ends

-- The server's cell before its first entry.
pub record IsNewServer (code : Code) (clients : ℕ) (cell : ServerCell) : Type 0 where
  pub whole : cell.spent ≡ None
  pub core : (p : Settings) → p.shape ≡ code.shape → RunsThreadsOf code p → p.clients ≡ clients
      → ServerStands p cell.core [] × LacksNothing p cell.core []
  pub log : cell.log ≡ new_log Server
  pub given : given_by cell.core ≡ 0
