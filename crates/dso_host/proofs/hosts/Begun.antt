-- The cells of a host before its first epoch.
use Rattle.std.specs.List.Sorted.{IsPermutation}
use Rattle.std.proofs.Common.{ℕ, suc, ◌≡◌, refl, sym, ◌∙◌, ap, subst, List, [], ◌∷◌, ◌++◌, map, arith}
use Rattle.std.proofs.lemmas.List.Sorted.{IsNonDecreasingBy-short, IsPermutation-refl}
use Rattle.dso_base.specs.declared.journal.Entry.{Entry}
use Rattle.dso_base.specs.declared.journal.Node.{Node}
use Rattle.dso_class.specs.declared.program.Program.{Program}
use Rattle.dso_class.specs.Sound.{IsSoundProgram}
use Rattle.dso_log.specs.Logs.{Log, LogKeeps}
use Rattle.dso_log.specs.Merged.{AllKeep, clock_of, entries_of_all}
use Rattle.dso_machine.specs.declared.code.Code.{Code}
use Rattle.dso_world.specs.WorldSteps.{settings_of}
use Rattle.dso_cell.specs.declared.client_cell.ClientCell.{ClientCell}
use Rattle.dso_cell.specs.declared.server_cell.ServerCell.{ServerCell}
use Rattle.dso_cell.specs.CellOpenings.{AreNewCells, IsNewServer}
use Rattle.dso_host.specs.declared.cells.Cells.{Cells}
use Rattle.dso_host.specs.Hosts.{AllKnown, HostStands, cluster_of}
use Rattle.dso_host.specs.HostStates.{AreAtRest, AreWhole}
use Rattle.dso_host.specs.Journals.{IsGathered, IsJournalOf, logs_in}
use Rattle.dso_host.specs.ProgramCells.{AreBounded, HaveNoEntry, IsServerBounded}
use Rattle.dso_host.proofs.hosts.Rest.{whole_within}

-- New cells have no entry.
pub new_without_entry : (code : Code) (resident c : ℕ) (cells : List ClientCell) → AreNewCells code resident c cells → HaveNoEntry cells
new_without_entry code resident c [] new = tt
new_without_entry code resident c (cell ∷ cells) new = (ap (λ log. log.entries) new.0.log, new_without_entry code resident (suc c) cells new.1)

pub server_without_entry : (code : Code) (clients : ℕ) (cell : ServerCell) → IsNewServer code clients cell → cell.log.entries ≡ []
server_without_entry code clients cell new = ap (λ log. log.entries) new.log

-- They rest.
pub new_at_rest : (program : Program) (cells : Cells) → HostStands program cells → AllKnown cells → AreBounded program.code cells.clients.items → IsServerBounded cells.server → AreAtRest program cells
new_at_rest program cells stand known clients server =
    let whole : AreWhole program cells = record {
      of = record { cluster = cluster_of program cells; code = refl; settings = refl; stand = stand };
      clients = clients;
      server = server;
    } in
    record { whole = whole; host = record { stand = stand; known = known; within = whole_within program cells whole } }

-- The journal of cells without an entry has none.
keeps_none : (node : Node) (entries : List Entry) → entries ≡ [] → LogKeeps node entries
keeps_none node entries none = subst (LogKeeps node) (sym none) (record { own = tt; from_one = tt; climbs = tt })

clients_keep : (cells : List ClientCell) → HaveNoEntry cells → AllKeep (map (λ (cell : ClientCell). cell.log) cells)
clients_keep [] none = tt
clients_keep (cell ∷ cells) none = (keeps_none cell.log.node cell.log.entries none.0, clients_keep cells none.1)

clients_none : (cells : List ClientCell) → HaveNoEntry cells → entries_of_all (map (λ (cell : ClientCell). cell.log) cells) ≡ []
clients_none [] none = refl
clients_none (cell ∷ cells) none = ap (λ first. first ++ entries_of_all (map (λ (cell : ClientCell). cell.log) cells)) none.0 ∙ clients_none cells none.1

pub empty_gathered : (cells : Cells) → HaveNoEntry cells.clients.items → cells.server.log.entries ≡ [] → IsGathered cells []
empty_gathered cells clients server =
    let none : entries_of_all (logs_in cells) ≡ [] =
    ap (λ first. first ++ entries_of_all (map (λ (cell : ClientCell). cell.log) cells.clients.items)) server ∙ clients_none cells.clients.items clients in
    record {
      keep = (keeps_none cells.server.log.node cells.server.log.entries server, clients_keep cells.clients.items clients);
      merged = record {
        all = subst (λ entries. IsPermutation entries []) (sym none) (IsPermutation-refl []);
        order = record { clocks = IsNonDecreasingBy-short clock_of [] (omega arith); nodes = λ k d within. absurd (omega (arith, within)) };
      };
    }

pub empty_journal : (program : Program) (cells : Cells) → IsSoundProgram program → AreAtRest program cells → HaveNoEntry cells.clients.items → cells.server.log.entries ≡ [] → IsJournalOf program cells []
empty_journal program cells sound rest clients server = record { sound = sound; host = rest.host; gathered = empty_gathered cells clients server }
