-- What holds of a log holds of its older part.
use Rattle.std.proofs.Common.{List, [], ◌∷◌, ◌++◌}
use Rattle.dso_base.specs.declared.journal.Entry.{Entry}
use Rattle.dso_base.specs.declared.journal.Node.{Node}
use Rattle.dso_law.specs.Channels.{Direction, Letter}
use Rattle.dso_law.specs.Settings.{Settings}
use Rattle.dso_machine.specs.declared.code.Code.{Code}
use Rattle.dso_cell.specs.Logs.{IsLocalRun}
use Rattle.dso_line.specs.Letters.{KeepsClock, KeepsConnections}
use Rattle.dso_line.specs.Ways.{TakesInOrder}

pub runs_behind : (code : Code) (p : Settings) (node : Node) (front es : List Entry) → IsLocalRun code p node (front ++ es) → IsLocalRun code p node es
runs_behind code p node [] es run = run
runs_behind code p node (f ∷ front) es run = runs_behind code p node front es run.0

pub clocks_behind : (front es : List Entry) → KeepsClock (front ++ es) → KeepsClock es
clocks_behind [] es keeps = keeps
clocks_behind (f ∷ front) es keeps = clocks_behind front es keeps.0

pub connections_behind : (front es : List Entry) → KeepsConnections (front ++ es) → KeepsConnections es
connections_behind [] es keeps = keeps
connections_behind (f ∷ front) es keeps = connections_behind front es keeps.0

pub takes_behind : {M : Type 0} (direction : Direction M) (letters : List (Letter M)) (front es : List Entry) → TakesInOrder direction letters (front ++ es) → TakesInOrder direction letters es
takes_behind direction letters [] es takes = takes
takes_behind direction letters (f ∷ front) es takes = takes_behind direction letters front es takes.0
