-- The log of one node by itself. A log is the entries of one node; they stand with the newest first.
use Rattle.std.specs.Prelude.{◌≡◌, false, List, [], ◌∷◌}
use Rattle.dso_base.specs.declared.journal.Entry.{Entry}
use Rattle.dso_base.specs.declared.journal.Input.{Input}
use Rattle.dso_base.specs.declared.journal.Input.TheVariants.{Act, TookUp, TookDown}
use Rattle.dso_base.specs.declared.journal.Node.{Node}
use Rattle.dso_base.specs.declared.journal.Node.TheVariants.{Server, Client}
use Rattle.dso_law.specs.ClientRun.{next_in}
use Rattle.dso_law.specs.ClientStep.{ClientStep}
use Rattle.dso_law.specs.FitsDown.{FitsDown}
use Rattle.dso_law.specs.FitsUp.{FitsUp}
use Rattle.dso_law.specs.ServerReadings.{counted, is_lost}
use Rattle.dso_law.specs.ServerStep.{ServerStep}
use Rattle.dso_law.specs.Settings.{Settings}
use Rattle.dso_machine.specs.declared.code.Code.{Code}
use Rattle.dso_machine.specs.Next.{next_request}
use Rattle.dso_client.specs.ClientStands.{point}
use Rattle.dso_client.specs.RunFacts.{SizesAreKept}

-- the code that the threads of the cluster run, and what its nodes know of it
module _ (code : Code) (p : Settings) where
  -- What the entry needs of the other nodes: the message that it takes fits, at the server where its client isn't
  -- lost; and before an act the sizes of all objects that came are kept.
  abbrev pub FitsLog : Node → Input → List Entry → Type 0
  FitsLog (Client c) (Act index) es = SizesAreKept (point code p c es)
  FitsLog (Client c) (TookDown m) es = FitsDown p c m es
  FitsLog Server (TookUp c m) es = is_lost c es ≡ false → FitsUp p c m (counted es)
  FitsLog node input es = Unit {0}

  -- In order: so it is of each entry.
  abbrev pub LogIsInOrder : Node → List Entry → Type 0
  LogIsInOrder node [] = Unit {0}
  LogIsInOrder node (e ∷ es) = LogIsInOrder node es × FitsLog node e.input es

  -- the entry follows the node's own entries by the node's rule
  abbrev pub FollowsLog : Node → Entry → List Entry → Type 0
  FollowsLog Server e es = ServerStep p e es
  FollowsLog (Client c) e es =
      ClientStep p c (next_in (next_request code) es) (next_in (next_request code) (e ∷ es)) e es

  -- A local run: each entry is the node's own, and follows by its rule where the log is in order up to it.
  abbrev pub IsLocalRun : Node → List Entry → Type 0
  IsLocalRun node [] = Unit {0}
  IsLocalRun node (e ∷ es) = IsLocalRun node es × (e.node ≡ node)
      × (LogIsInOrder node (e ∷ es) → FollowsLog node e es)
