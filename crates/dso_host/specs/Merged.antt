-- The logs of all nodes, and the journal that they make. Entries stand with the newest first.
use Rattle.std.specs.List.{list_any, AllByRecursion}
use Rattle.std.specs.Prelude.{ℕ, ◌≤◌, ◌<◌, ◌^◌, ◌≡◌, false, eqb, List, [], ◌∷◌, length}
use Rattle.dso_base.specs.declared.journal.Entry.{Entry}
use Rattle.dso_base.specs.declared.journal.Node.{Node}
use Rattle.dso_base.specs.declared.journal.Node.TheVariants.{Server, Client}
use Rattle.dso_law.specs.Channels.{breaks, count_inputs, rejoins, to_client, to_server}
use Rattle.dso_law.specs.Entries.{entries_of}
use Rattle.dso_law.specs.Settings.{Settings, clients_of}
use Rattle.dso_machine.specs.declared.code.Code.{Code}
use Rattle.dso_machine.specs.Next.{next_request}
use Rattle.dso_machine.specs.Sound.{IsSoundCode}
use Rattle.dso_legal.specs.Lawful.{IsLawful}
use Rattle.dso_cell.specs.Logs.{IsLocalRun}
use Rattle.dso_line.specs.Letters.{KeepsClock, KeepsConnections, letters_of}
use Rattle.dso_line.specs.Ways.{TakesInOrder}

-- The logs of a cluster: each is a local run with its clocks, and takes the messages that the other end's log sends, in
-- order and once. The server keeps to its connections, and no connection is taken up more often than it was broken. No
-- client but those of the cluster has entries.
pub record AreLogs (code : Code) (p : Settings) (log : Node → List Entry) : Type 0 where
  pub runs : (node : Node) → IsLocalRun code p node (log node)
  pub clocks : (node : Node) → KeepsClock (log node)
  pub up : (c : ℕ) → TakesInOrder (to_server c) (letters_of (to_server c) (log (Client c))) (log Server)
  pub down : (c : ℕ) → TakesInOrder (to_client c) (letters_of (to_client c) (log Server)) (log (Client c))
  pub connections : KeepsConnections (log Server)
  pub rejoined : (c : ℕ) → count_inputs (rejoins c) (log (Client c)) ≤ count_inputs (breaks c) (log Server)
  pub taken_up : (c : ℕ) → count_inputs (rejoins c) (log Server) ≤ count_inputs (rejoins c) (log (Client c))
  pub none_else : (c : ℕ) → list_any (eqb c) (clients_of p) ≡ false → log (Client c) ≡ []

-- no later entry has a lower clock
abbrev pub ClocksRise : List Entry → Type 0
ClocksRise [] = Unit {0}
ClocksRise (e ∷ es) = ClocksRise es × AllByRecursion (λ before. before.clock ≤ e.clock) es

-- the entries are those of all logs, by their clocks
pub record AreMerged (log : Node → List Entry) (es : List Entry) : Type 0 where
  pub whole : (node : Node) → entries_of node es ≡ log node
  pub order : ClocksRise es

-- Merged logs: the journal that the logs of a cluster make, by their clocks, is lawful for sound code, where there are
-- fewer than 2 ^ 54 entries.
abbrev pub MergedIsLawful : Type 0
MergedIsLawful = (code : Code) (p : Settings) → IsSoundCode code → p.shape ≡ code.shape
    → (log : Node → List Entry) (es : List Entry) → AreLogs code p log → AreMerged log es → length es < 2 ^ 54
    → IsLawful p (next_request code) es
