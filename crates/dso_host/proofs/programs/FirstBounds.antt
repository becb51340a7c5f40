-- New cells keep their bounds.
use Rattle.std.specs.List.{AllByRecursion}
use Rattle.std.proofs.Common.{ℕ, suc, ◌^◌, ◌<◌, ◌≤◌, ◌≡◌, sym, ap, Result, IfOk, Ok, Err, List, [], ◌∷◌, length, arith}
use Rattle.dso_base.specs.declared.journal.Trigger.{Trigger}
use Rattle.dso_class.specs.declared.program.Program.{Program}
use Rattle.dso_class.specs.Sound.{IsSoundProgram}
use Rattle.dso_machine.specs.declared.code.Code.{Code}
use Rattle.dso_log.specs.Logs.{last_clock}
use Rattle.dso_cell.specs.declared.client_cell.ClientCell.{ClientCell}
use Rattle.dso_cell.specs.declared.server_cell.ServerCell.{ServerCell}
use Rattle.dso_cell.specs.declared.server_end.ServerEnd.{ServerEnd}
use Rattle.dso_cell.specs.CellOpenings.{AreNewCells, AreNewEnds, AreSettings, IsNewEnd, IsNewServer}
use Rattle.dso_cell.specs.ServerCells.{ServerEndBounds}
use Rattle.dso_cell.specs.CellsOfClusters.{CellsStand, cluster_of}
use Rattle.dso_world.specs.WorldSteps.{settings_of}
use Rattle.dso_law.specs.Settings.{Settings}
use Rattle.dso_host.proofs.programs.ProgramSettings.{program_settings}
use Rattle.dso_host.specs.ProgramCells.{AreBounded, IsServerBounded}

-- those of clients
pub new_bounded : (code : Code) (resident c : ℕ) (cells : List ClientCell) → AreNewCells code resident c cells → AreBounded code cells
new_bounded code resident c [] new = tt
new_bounded code resident c (cell ∷ cells) new = (new.0.whole, new.0.bounds, new_bounded code resident (suc c) cells new.1)

-- that of the server
end_bounded : (losses breaks : List Trigger) (entries c : ℕ) (end : ServerEnd) → IsNewEnd losses breaks c end → ServerEndBounds entries end
end_bounded losses breaks entries c end new =
    let none : end.port.session.epoch ≡ 0 = ap (λ session. session.epoch) new.port.session in
    record { own = ap (λ session. session.role) new.port.session; broke = omega (arith, none) }

ends_bounded : (losses breaks : List Trigger) (entries c : ℕ) (ends : List ServerEnd) → AreNewEnds losses breaks c ends → AllByRecursion (ServerEndBounds entries) ends
ends_bounded losses breaks entries c [] new = tt
ends_bounded losses breaks entries c (end ∷ ends) new = (end_bounded losses breaks entries c end new.0, ends_bounded losses breaks entries (suc c) ends new.1)

server_bounded : (code : Code) (clients : ℕ) (losses breaks : List Trigger) (cell : ServerCell) → IsNewServer code clients cell → AreNewEnds losses breaks 1 cell.ends.items
    → length cell.ends.items < 2 ^ 8 → IsServerBounded cell
server_bounded code clients losses breaks cell new ends few =
    let none : length cell.log.entries ≡ 0 = ap (λ log. length log.entries) new.log in
    let zero : last_clock cell.log ≡ 0 = ap last_clock new.log in (
      new.whole,
      record {
        few = omega (arith, none);
        within = omega (arith, zero);
        given = (let given = new.given in omega (arith, given));
        ends = ends_bounded losses breaks (length cell.log.entries) 1 cell.ends.items ends;
        clients = few;
      },
    )

-- that of a sound program's server
program_server_bounded : (program : Program) → IsSoundProgram program → (losses breaks : List Trigger) (cells : List ClientCell) (cell : ServerCell)
    → CellsStand (cluster_of program.code (settings_of program) cells cell.ends.items) cells cell → IsNewServer program.code program.clients cell
    → AreNewEnds losses breaks 1 cell.ends.items → IsServerBounded cell
program_server_bounded program sound losses breaks cells cell stand new ends =
    let all : length cell.ends.items ≡ program.clients = stand.server.parts.all in
    let most : program.clients ≤ 16 = sound.no_more_clients in
    server_bounded program.code program.clients losses breaks cell new ends (omega (arith, all, most))

-- where cells were made
pub made_bounded : {V E : Type 0} (made : Result (V × ServerCell) E) (items : V → List ClientCell) (program : Program) → IsSoundProgram program
    → (losses breaks : List Trigger) → losses ≡ program.losses → breaks ≡ program.breaks
    → IfOk made (λ m. (p : Settings) → AreSettings program.code program.clients program.resident losses breaks p
    → CellsStand (cluster_of program.code p (items m.0) m.1.ends.items) (items m.0) m.1)
    → IfOk made (λ m. IsNewServer program.code program.clients m.1)
    → IfOk made (λ m. AreNewEnds losses breaks 1 m.1.ends.items)
    → IfOk made (λ m. IsServerBounded m.1)
made_bounded (Err refused) items program sound losses breaks lost broken stand new ends = tt
made_bounded (Ok m) items program sound losses breaks lost broken stand new ends =
    let settings = program_settings program sound in
    let own : AreSettings program.code program.clients program.resident losses breaks (settings_of program) = record {
      shape = settings.shape;
      clients = settings.clients;
      resident = settings.resident;
      losses = sym lost;
      breaks = sym broken;
      runs = settings.runs;
      threads = settings.threads;
    } in
    program_server_bounded program sound losses breaks (items m.0) m.1 (stand (settings_of program) own) new ends
