-- The two ends of each client's connection, side by side.
use Rattle.std.specs.Prelude.{◌≡◌, List, [], ◌∷◌}
use Rattle.dso_log.specs.Logs.{Log}
use Rattle.dso_port.specs.Ports.{AreTogether, HasLooked, KnowEachOther}
use Rattle.dso_cell.specs.declared.client_cell.ClientCell.{ClientCell}
use Rattle.dso_cell.specs.declared.server_cell.ServerCell.{ServerCell}
use Rattle.dso_cell.specs.declared.server_end.ServerEnd.{ServerEnd}

-- what the end of each client gives the server's end takes, and the other way
abbrev pub AllTogether : List ClientCell → List ServerEnd → Type 0
AllTogether [] [] = Unit {0}
AllTogether (cell ∷ cells) (end ∷ ends) = AreTogether cell.port end.port × AllTogether cells ends
AllTogether cells ends = ⊥

-- each end of each client's connection knows all that is in the ring from which it takes
abbrev pub AllKnow : List ClientCell → List ServerEnd → Type 0
AllKnow [] [] = Unit {0}
AllKnow (cell ∷ cells) (end ∷ ends) = KnowEachOther cell.port end.port × AllKnow cells ends
AllKnow cells ends = ⊥

-- so of the ends of the server
abbrev pub AreTogetherWith : List ClientCell → ServerCell → Type 0
AreTogetherWith cells server = AllTogether cells server.ends.items

abbrev pub KnowAllWith : List ClientCell → ServerCell → Type 0
KnowAllWith cells server = AllKnow cells server.ends.items

-- A cell looked into its rings, and nothing else of it changed.
pub record CellLooked (old new : ClientCell) : Type 0 where
  pub port : HasLooked old.port new.port
  pub rest : new ≡ record old { port = new.port }

-- so did these, one by one
abbrev pub CellsLooked : List ClientCell → List ClientCell → Type 0
CellsLooked [] [] = Unit {0}
CellsLooked (old ∷ olds) (new ∷ news) = CellLooked old new × CellsLooked olds news
CellsLooked olds news = ⊥

-- An end of the server looked into its rings, and nothing else of it changed.
pub record EndLooked (old new : ServerEnd) : Type 0 where
  pub port : HasLooked old.port new.port
  pub rest : new ≡ record old { port = new.port }

abbrev pub EndsLooked : List ServerEnd → List ServerEnd → Type 0
EndsLooked [] [] = Unit {0}
EndsLooked (old ∷ olds) (new ∷ news) = EndLooked old new × EndsLooked olds news
EndsLooked olds news = ⊥

-- All ends of the server did, and nothing else of its cell changed.
pub record ServerLooked (old new : ServerCell) : Type 0 where
  pub ends : EndsLooked old.ends.items new.ends.items
  pub rest : new ≡ record old { ends = new.ends }

-- the log of a cell
abbrev pub client_log_of : ClientCell → Log
client_log_of cell = cell.log

abbrev pub server_log_of : ServerCell → Log
server_log_of cell = cell.log
