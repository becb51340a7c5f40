-- Turns of cells behind locks.
use Rattle.std.specs.Prelude.{IfOk, OnErr}
use Rattle.std.specs.Result.{is_err, result_unwrap_or}
use Rattle.std.proofs.Common.{◌≡◌, refl, sym, subst, Bool, true, false, is_some, List, Option, Some, None, Result, Ok, Err}
use Rattle.dso_base.specs.declared.journal.Entry.{Entry}
use Rattle.dso_base.specs.declared.no_memory.NoMemory.{NoMemory}
use Rattle.dso_machine.specs.declared.code.Code.{Code}
use Rattle.dso_cell.specs.declared.client_cell.ClientCell.{ClientCell}
use Rattle.dso_cell.specs.declared.server_cell.ServerCell.{ServerCell}
use Rattle.dso_cell.specs.ClientCells.{ClientBounds, GoesOn, IsOneMore}
use Rattle.dso_cell.specs.Clusters.{Cluster}
use Rattle.dso_cell.specs.LockedCells.{ClientStandsFor, RunsNamed, ServerStandsFor}
use Rattle.dso_cell.specs.ServerCells.{ServerBounds, ServerGoesOn}

-- what a cell stood for it stands for behind a turn
pub client_stays_for : (code : Code) (named : Option Cluster) (old new : ClientCell) → RunsNamed code named → ClientStandsFor named old → GoesOn code old new → ClientBounds code new
    → ClientStandsFor named new
client_stays_for code None old new runs stands on bounds = absurd stands
client_stays_for code (Some cluster) old new runs stands on bounds =
    (on.stands cluster runs stands.0, subst (λ code. ClientBounds code new) (sym runs) bounds)

-- its bounds are those of the code
pub client_bounds_for : (code : Code) (named : Option Cluster) (cell : ClientCell) → RunsNamed code named → ClientStandsFor named cell → ClientBounds code cell
client_bounds_for code None cell runs stands = absurd stands
client_bounds_for code (Some cluster) cell runs stands = subst (λ code. ClientBounds code cell) runs stands.1

pub server_stays_for : (code : Code) (named : Option Cluster) (old new : ServerCell) → RunsNamed code named → ServerStandsFor named old → ServerGoesOn code old new → ServerBounds new
    → ServerStandsFor named new
server_stays_for code None old new runs stands on bounds = absurd stands
server_stays_for code (Some cluster) old new runs stands on bounds = (on.stands cluster runs stands.0, bounds)

pub server_bounds_for : (named : Option Cluster) (cell : ServerCell) → ServerStandsFor named cell → ServerBounds cell
server_bounds_for None cell stands = absurd stands
server_bounds_for (Some cluster) cell stands = stands.1

-- What is answered of a turn, false where it answered that memory was refused: where the cell isn't spent after, an
-- entry more exactly where that is true.
pub one_more_or_spent : (told : Result Bool NoMemory) (spent : Option NoMemory) (old new : List Entry) → IfOk told (λ added. IsOneMore added old new)
    → OnErr told (is_some spent ≡ true) → spent ≡ None → IsOneMore (result_unwrap_or told false) old new
one_more_or_spent (Ok added) spent old new more full whole = more
one_more_or_spent (Err refused) spent old new more full whole = absurd (cc (full, whole))

-- false where memory was refused
pub none_where_refused : (told : Result Bool NoMemory) → is_err told ≡ true → result_unwrap_or told false ≡ false
none_where_refused (Ok added) is = absurd (cc is)
none_where_refused (Err refused) is = refl
