-- The logs of cells that stand are those of a cluster.
use Rattle.std.specs.List.{list_any, AllByRecursion}
use Rattle.std.proofs.Common.{ℕ, suc, ◌-◌, ◌≤◌, ◌≡◌, refl, sym, ◌∙◌, ap, Bool, true, false, cond, eqb, List, [], ◌∷◌, ◌++◌, map, arith}
use Rattle.std.proofs.lemmas.List.{map-append}
use Rattle.dso_base.specs.declared.journal.Entry.{Entry}
use Rattle.dso_base.specs.declared.journal.Input.{Input}
use Rattle.dso_base.specs.declared.journal.Input.TheVariants as input
use Rattle.dso_base.specs.declared.journal.Node.{Node}
use Rattle.dso_base.specs.declared.journal.Node.TheVariants.{Server, Client}
use Rattle.dso_base.specs.declared.message.Up.{Up}
use Rattle.dso_plain.proofs.keys.SameKeys.{same_number}
use Rattle.dso_law.specs.Channels.{Letter, breaks, count_inputs, rejoins, takes_up, to_client, to_server}
use Rattle.dso_law.specs.Settings.{Settings, clients_of}
use Rattle.dso_port.specs.Ports.{Giving, KnowsAll, Taking, given, owed, taken}
use Rattle.rtrb.specs.Ring.{known_items, received}
use Rattle.dso_line.specs.Letters.{KeepsClock, letters_of, newest}
use Rattle.dso_line.specs.Ways.{TakesInOrder}
use Rattle.dso_line.proofs.rings.Meeting.{ways_meet}
use Rattle.dso_cell.specs.declared.client_cell.ClientCell.{ClientCell}
use Rattle.dso_cell.specs.declared.server_end.ServerEnd.{ServerEnd}
use Rattle.dso_cell.specs.Clusters.{Cluster}
use Rattle.dso_cell.specs.Logs.{IsLocalRun}
use Rattle.dso_cell.specs.ServerCells.{IsWithClient}
use Rattle.dso_host.specs.declared.cells.Cells.{Cells}
use Rattle.dso_host.specs.Hosts.{AllKnown, CellsStand}
use Rattle.dso_host.specs.Journals.{log_in}
use Rattle.dso_host.specs.Merged.{AreLogs}
use Rattle.dso_host.proofs.hosts.Pairs.{HasPair, no_log, of_client}

-- what is known of a ring, as bytes
abbrev more_known : {M : Type 0} → Taking M → List (List ℕ)
more_known taking = map (λ item. item.items) (known_items taking)

-- where the reading end knows all, what was taken is the first of what was given
first_of_given : {M : Type 0} (giving : Giving M) (taking : Taking M) → KnowsAll giving taking → taken taking ++ more_known taking ≡ given giving
first_of_given giving taking know = sym (map-append (λ item. item.items) (received taking) (known_items taking)) ∙ ap (map (λ item. item.items)) know

-- ---- what the server does with clients of the cluster alone

module _ (p : Settings) (c : ℕ) (none : list_any (eqb c) (clients_of p) ≡ false) where
  other_client : (d : ℕ) → list_any (eqb d) (clients_of p) ≡ true → eqb c d ≡ false
  other_client d its = by (eqb c d) refl
    where
      by : (same : Bool) → eqb c d ≡ same → same ≡ false
      by false is = refl
      by true is = absurd (cc (sym none ∙ ap (λ n. list_any (eqb n) (clients_of p)) (same_number c d is) ∙ its))

  -- it takes no message of another one,
  takes_none : (i : Input) → IsWithClient p i → takes_up c i ≡ false
  takes_none (input.TookUp d m) its = other_client d its
  takes_none (input.Lose d) its = refl
  takes_none (input.Break d) its = refl
  takes_none (input.Rejoin d) its = refl
  takes_none (input.Act index) its = refl
  takes_none (input.TookDown m) its = refl
  takes_none (input.Flush o) its = refl

  -- and no connection of another one up again.
  rejoins_none : (i : Input) → IsWithClient p i → rejoins c i ≡ false
  rejoins_none (input.TookUp d m) its = refl
  rejoins_none (input.Lose d) its = refl
  rejoins_none (input.Break d) its = refl
  rejoins_none (input.Rejoin d) its = other_client d its
  rejoins_none (input.Act index) its = refl
  rejoins_none (input.TookDown m) its = refl
  rejoins_none (input.Flush o) its = refl

  none_taken : (letters : List (Letter Up)) (es : List Entry) → AllByRecursion (λ e. IsWithClient p e.input) es → TakesInOrder (to_server c) letters es
  none_taken letters [] with_clients = tt
  none_taken letters (e ∷ es) with_clients = (none_taken letters es with_clients.1, λ takes. absurd (cc (sym (takes_none e.input with_clients.0) ∙ takes)))

  none_rejoined : (es : List Entry) → AllByRecursion (λ e. IsWithClient p e.input) es → count_inputs (rejoins c) es ≡ 0
  none_rejoined [] with_clients = refl
  none_rejoined (e ∷ es) with_clients = ap (λ b. cond b (suc (count_inputs (rejoins c) es)) (count_inputs (rejoins c) es)) (rejoins_none e.input with_clients.0) ∙ none_rejoined es with_clients.1

-- ---- one client
module _ (cluster : Cluster) (es : List Entry) (c place : ℕ) (cells : List ClientCell) (ends : List ServerEnd) (has : HasPair cluster es c place cells ends) where
  abbrev own : List Entry
  own = newest has.cell.log

  pub goes_up : TakesInOrder (to_server c) (letters_of (to_server c) own) es × (count_inputs (rejoins c) es ≤ count_inputs (rejoins c) own)
  goes_up = ways_meet.up c own es (owed has.cell.port.session) (count_inputs (rejoins c) own) (count_inputs (rejoins c) es) (given has.cell.port.out) (taken has.end.port.into) (more_known has.end.port.into)
      has.stands.line.sends.gave has.its.line.end.took (first_of_given has.cell.port.out has.end.port.into has.know.up)

  pub goes_down : TakesInOrder (to_client c) (letters_of (to_client c) es) own × (count_inputs (rejoins c) own ≤ count_inputs (breaks c) es)
  goes_down = ways_meet.down c es own (owed has.end.port.session) (count_inputs (breaks c) es) (count_inputs (rejoins c) own) (given has.end.port.out) (taken has.cell.port.into) (more_known has.cell.port.into)
      has.its.line.end.sends.gave has.stands.line.took (first_of_given has.end.port.out has.cell.port.into has.know.down)

-- ---- all logs
module _ (cluster : Cluster) (cells : Cells) (stand : CellsStand cluster cells) (known : AllKnown cells) where
  abbrev server : List Entry
  server = newest cells.server.log

  abbrev IsClient : ℕ → Type 0
  IsClient c = HasPair cluster server c (c - 1) cells.clients.items cells.server.ends.items

  of_node : (P : Node → List Entry → Type 0) → P Server server → ((c : ℕ) → P (Client c) []) → ((c : ℕ) (has : IsClient c) → P (Client c) (newest has.cell.log)) → (node : Node) → P node (log_in cells node)
  of_node P first none one Server = first
  of_node P first none one (Client c) = of_client cluster cells stand known (P (Client c)) c (λ is. none c) (one c)

  pub logs_of_cells : AreLogs cluster.code cluster.settings (log_in cells)
  logs_of_cells =
      let parts = stand.server.parts in
      let meet_up = λ (c : ℕ) (has : IsClient c). goes_up cluster server c (c - 1) cells.clients.items cells.server.ends.items has in
      let meet_down = λ (c : ℕ) (has : IsClient c). goes_down cluster server c (c - 1) cells.clients.items cells.server.ends.items has in
      record {
        runs = of_node (IsLocalRun cluster.code cluster.settings) parts.run (λ c. tt) (λ c has. has.stands.run);
        clocks = of_node (λ node log. KeepsClock log) parts.clocks (λ c. tt) (λ c has. has.stands.clocks);
        up = λ c. of_client cluster cells stand known (λ log. TakesInOrder (to_server c) (letters_of (to_server c) log) server) c
            (λ none. none_taken cluster.settings c none [] server parts.with_clients) (λ has. (meet_up c has).0);
        down = λ c. of_client cluster cells stand known (λ log. TakesInOrder (to_client c) (letters_of (to_client c) server) log) c (λ none. tt) (λ has. (meet_down c has).0);
        connections = parts.connections;
        rejoined = λ c. of_client cluster cells stand known (λ log. count_inputs (rejoins c) log ≤ count_inputs (breaks c) server) c (λ none. omega arith) (λ has. (meet_down c has).1);
        taken_up = λ c. of_client cluster cells stand known (λ log. count_inputs (rejoins c) server ≤ count_inputs (rejoins c) log) c
            (λ none. omega (arith, none_rejoined cluster.settings c none server parts.with_clients)) (λ has. (meet_up c has).1);
        none_else = λ c none. no_log cluster cells stand known c none;
      }
