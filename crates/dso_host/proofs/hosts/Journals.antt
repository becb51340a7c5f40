-- The journal that is gathered of the cells of a host.
use Rattle.std.specs.List.{AllByRecursion, sum_by}
use Rattle.std.proofs.Common.{ℕ, suc, ◌*◌, ◌-◌, ◌≤◌, ◌^◌, ◌≡◌, inl, refl, sym, ◌∙◌, ap, subst, Bool, true, false, cond, eqb, List, [], ◌∷◌, ◌++◌, length, map, min, reverse, take, arith}
use Rattle.std.proofs.lemmas.List.{append-nil, length-append, length-map, length-reverse, reverse-reverse, take_all}
use Rattle.std.proofs.lemmas.List.Elements.{All-from_recursion, recursion_from_All}
use Rattle.std.proofs.lemmas.List.Sorted.{All-permutation, IsPermutation-reverse, IsPermutation-sym, length_permutation, sum_by-IsPermutation}
use Rattle.std.proofs.lemmas.List.Sums.{sum_by-append, sum_by-cons}
use Rattle.dso_base.specs.declared.journal.Entry.{Entry}
use Rattle.dso_base.specs.declared.journal.Node.{Node}
use Rattle.dso_base.specs.declared.journal.Node.TheVariants.{Server, Client}
use Rattle.dso_base.specs.Weight.{entry_weight_of}
use Rattle.dso_plain.proofs.keys.SameKeys.{number_self, same_number}
use Rattle.dso_law.specs.Entries.{entries_of, is_node}
use Rattle.dso_legal.specs.Slots.{weight}
use Rattle.dso_log.specs.Logs.{Climbs, Log, LogKeeps, last_clock}
use Rattle.dso_log.specs.Merged.{AllKeep, entries_of_all}
use Rattle.dso_line.specs.Letters.{log_clock, newest}
use Rattle.dso_line.proofs.standing.Logs.{clock_newest}
use Rattle.dso_world.specs.WorldSteps.{settings_of}
use Rattle.dso_cell.specs.declared.client_cell.ClientCell.{ClientCell}
use Rattle.dso_cell.specs.Clusters.{Cluster}
use Rattle.dso_host.specs.declared.cells.Cells.{Cells}
use Rattle.dso_cell.specs.CellsOfClusters.{ClientCellsStand}
use Rattle.dso_host.specs.Hosts.{CellsStand, cluster_of}
use Rattle.dso_host.specs.Journals.{GatheredIsLawful, GatheredWeight, IsGathered, client_log, log_in, logs_in}
use Rattle.dso_host.specs.Merged.{AreMerged}
use Rattle.dso_host.proofs.hosts.Logs.{logs_of_cells}
use Rattle.dso_host.proofs.hosts.Pairs.{none_outside}
use Rattle.dso_host.proofs.merging.Gathered.{gathered_is_merged}
use Rattle.dso_host.proofs.merging.Lawful.{merged_is_lawful}

-- ---- the entries of a node

is_itself : (node : Node) → is_node node node ≡ true
is_itself Server = refl
is_itself (Client c) = number_self c

entries_append : (node : Node) (xs ys : List Entry) → entries_of node (xs ++ ys) ≡ entries_of node xs ++ entries_of node ys
entries_append node [] ys = refl
entries_append node (e ∷ xs) ys = by (is_node node e.node) (entries_append node xs ys)
  where
    by : (its : Bool) → entries_of node (xs ++ ys) ≡ entries_of node xs ++ entries_of node ys
        → cond its (e ∷ entries_of node (xs ++ ys)) (entries_of node (xs ++ ys)) ≡ cond its (e ∷ entries_of node xs) (entries_of node xs) ++ entries_of node ys
    by true before = ap (λ es. e ∷ es) before
    by false before = before

all_its : (node : Node) (es : List Entry) → AllByRecursion (λ e. e.node ≡ node) es → entries_of node es ≡ es
all_its node [] own = refl
all_its node (e ∷ es) own =
    let its : is_node node e.node ≡ true = ap (is_node node) own.0 ∙ is_itself node in
    ap (λ b. cond b (e ∷ entries_of node es) (entries_of node es)) its ∙ ap (λ es. e ∷ es) (all_its node es own.1)

none_its : (node other : Node) → is_node node other ≡ false → (es : List Entry) → AllByRecursion (λ e. e.node ≡ other) es → entries_of node es ≡ []
none_its node other none [] own = refl
none_its node other none (e ∷ es) own =
    let its : is_node node e.node ≡ false = ap (is_node node) own.0 ∙ none in
    ap (λ b. cond b (e ∷ entries_of node es) (entries_of node es)) its ∙ none_its node other none es own.1

-- ---- the entries of a log

-- what holds of each of the newest first holds of each
all_turned : (P : Entry → Type 0) (xs : List Entry) → AllByRecursion P (reverse xs) → AllByRecursion P xs
all_turned P xs all = recursion_from_All P xs (All-permutation P (reverse xs) xs (IsPermutation-sym xs (reverse xs) (IsPermutation-reverse xs)) (All-from_recursion P (reverse xs) all))

own_log : (node : Node) (log : Log) → log.node ≡ node → LogKeeps log.node log.entries → entries_of node log.entries ≡ reverse (newest log)
own_log node log is keeps = all_its node log.entries (all_turned (λ e. e.node ≡ node) log.entries (subst (λ n. AllByRecursion (λ e. e.node ≡ n) (reverse log.entries)) is keeps.own))
    ∙ sym (reverse-reverse log.entries)

other_log : (node other : Node) (log : Log) → log.node ≡ other → is_node node other ≡ false → LogKeeps log.node log.entries → entries_of node log.entries ≡ []
other_log node other log is none keeps = none_its node other none log.entries (all_turned (λ e. e.node ≡ other) log.entries (subst (λ n. AllByRecursion (λ e. e.node ≡ n) (reverse log.entries)) is keeps.own))

-- two lists of which the first is known, and the second
both_parts : (a b x y : List Entry) → a ≡ x → b ≡ y → a ++ b ≡ x ++ y
both_parts a b x y first second = ap (λ list. list ++ b) first ∙ ap (λ list. x ++ list) second

-- ---- the entries of all logs
abbrev own_logs : List ClientCell → List Log
own_logs cells = map (λ cell. cell.log) cells

-- none of those of clients is the server's
none_of_server : (cluster : Cluster) (c : ℕ) (cells : List ClientCell) → ClientCellsStand cluster c cells → AllKeep (own_logs cells) → entries_of Server (entries_of_all (own_logs cells)) ≡ []
none_of_server cluster c [] clients keep = refl
none_of_server cluster c (cell ∷ cells) clients keep = entries_append Server cell.log.entries (entries_of_all (own_logs cells))
    ∙ both_parts (entries_of Server cell.log.entries) (entries_of Server (entries_of_all (own_logs cells))) [] [] (other_log Server (Client cell.number) cell.log clients.1.own refl keep.0)
    (none_of_server cluster (suc c) cells clients.2 keep.1)

-- those of a client are those of its log
its_of_clients : (cluster : Cluster) (first c : ℕ) (cells : List ClientCell) → ClientCellsStand cluster first cells → AllKeep (own_logs cells) → entries_of (Client c) (entries_of_all (own_logs cells)) ≡ reverse (client_log c cells)
its_of_clients cluster first c [] clients keep = refl
its_of_clients cluster first c (cell ∷ cells) clients keep =
    entries_append (Client c) cell.log.entries (entries_of_all (own_logs cells))
    ∙ by (eqb c cell.number) refl (entries_of (Client c) (entries_of_all (own_logs cells))) (its_of_clients cluster (suc first) c cells clients.2 keep.1)
  where
    by : (its : Bool) → eqb c cell.number ≡ its → (rest : List Entry) → rest ≡ reverse (client_log c cells)
        → entries_of (Client c) cell.log.entries ++ rest ≡ reverse (cond its (newest cell.log) (client_log c cells))
    by true is rest later =
        let same : c ≡ cell.number = same_number c cell.number is in
        let number : cell.number ≡ first = clients.0 in
        let none : client_log c cells ≡ [] = none_outside cluster [] (suc first) c cells clients.2 (inl (omega (arith, same, number))) in
        both_parts (entries_of (Client c) cell.log.entries) rest (reverse (newest cell.log)) [] (own_log (Client c) cell.log (clients.1.own ∙ ap Client (sym same)) keep.0) (later ∙ ap reverse none)
        ∙ append-nil (reverse (newest cell.log))
    by false is rest later = both_parts (entries_of (Client c) cell.log.entries) rest [] (reverse (client_log c cells)) (other_log (Client c) (Client cell.number) cell.log clients.1.own is keep.0) later

-- Those of a node, in all logs, are those of its log.
pub its_entries : (cluster : Cluster) (cells : Cells) → CellsStand cluster cells → AllKeep (logs_in cells) → (node : Node) → entries_of node (entries_of_all (logs_in cells)) ≡ reverse (log_in cells node)
its_entries cluster cells stand keep Server =
    entries_append Server cells.server.log.entries (entries_of_all (own_logs cells.clients.items))
    ∙ both_parts (entries_of Server cells.server.log.entries) (entries_of Server (entries_of_all (own_logs cells.clients.items))) (reverse (newest cells.server.log)) []
    (own_log Server cells.server.log stand.server.own keep.0) (none_of_server cluster 1 cells.clients.items stand.clients keep.1)
    ∙ append-nil (reverse (newest cells.server.log))
its_entries cluster cells stand keep (Client c) =
    entries_append (Client c) cells.server.log.entries (entries_of_all (own_logs cells.clients.items))
    ∙ both_parts (entries_of (Client c) cells.server.log.entries) (entries_of (Client c) (entries_of_all (own_logs cells.clients.items))) [] (reverse (client_log c cells.clients.items))
    (other_log (Client c) Server cells.server.log stand.server.own refl keep.0) (its_of_clients cluster 1 c cells.clients.items stand.clients keep.1)

-- ---- clocks

client_climbs : (c : ℕ) (cells : List ClientCell) → AllKeep (own_logs cells) → Climbs (client_log c cells)
client_climbs c [] keep = tt
client_climbs c (cell ∷ cells) keep = by (eqb c cell.number) (client_climbs c cells keep.1)
  where
    by : (its : Bool) → Climbs (client_log c cells) → Climbs (cond its (newest cell.log) (client_log c cells))
    by true later = keep.0.climbs
    by false later = later

-- the clocks of each log climb
climb : (cells : Cells) → AllKeep (logs_in cells) → (node : Node) → Climbs (log_in cells node)
climb cells keep Server = keep.0.climbs
climb cells keep (Client c) = client_climbs c cells.clients.items keep.1

-- a log has no more entries than its last clock
few_by_clock : (es : List Entry) → Climbs es → AllByRecursion (λ e. 1 ≤ e.clock) es → length es ≤ log_clock es
few_by_clock [] climbs from = omega arith
few_by_clock (e ∷ []) climbs from = omega (arith, from.0)
few_by_clock (e ∷ f ∷ es) climbs from = omega (arith, few_by_clock (f ∷ es) climbs.0 from.1, climbs.1.0)

few_of_log : (log : Log) → LogKeeps log.node log.entries → last_clock log ≤ 2 ^ 28 → length log.entries ≤ 2 ^ 28
few_of_log log keeps low = omega (arith, few_by_clock (reverse log.entries) keeps.climbs keeps.from_one, clock_newest log, length-reverse log.entries)

few_of_all : (logs : List Log) → AllKeep logs → AllByRecursion (λ log. last_clock log ≤ 2 ^ 28) logs → length (entries_of_all logs) ≤ 2 ^ 28 * length logs
few_of_all [] keep within = omega arith
few_of_all (log ∷ logs) keep within = omega (arith, length-append log.entries (entries_of_all logs), few_of_log log keep.0 within.0, few_of_all logs keep.1 within.1)

-- ---- the journal

module _ (cluster : Cluster) (cells : Cells) (stand : CellsStand cluster cells) (entries : List Entry) (gathered : IsGathered cells entries) where
  -- The journal is that of the logs.
  pub are_merged : AreMerged (log_in cells) (reverse entries)
  are_merged = gathered_is_merged (log_in cells) (entries_of_all (logs_in cells)) entries (its_entries cluster cells stand gathered.keep) (climb cells gathered.keep) gathered.merged.all gathered.merged.order.clocks

-- Of the cells of a host it is lawful.
pub gathered_is_lawful : GatheredIsLawful
gathered_is_lawful program cells entries journal =
    let sound = journal.sound in
    let host = journal.host in
    let gathered = journal.gathered in
    let stand = host.stand in
    let logs = logs_in cells in
    let many : length entries ≡ length (entries_of_all logs) = length_permutation (entries_of_all logs) entries gathered.merged.all in
    let clients = sound.no_more_clients in
    merged_is_lawful program.code (settings_of program) sound.code refl (log_in cells) (reverse entries)
    (logs_of_cells (cluster_of program cells) cells stand host.known)
    (are_merged (cluster_of program cells) cells stand entries gathered)
    (omega (arith, length-reverse entries, many, few_of_all logs gathered.keep host.within, length-map cells.clients.items (λ cell. cell.log), stand.all, clients))

-- ---- weights

weight_is : (es : List Entry) → weight es ≡ sum_by entry_weight_of es
weight_is [] = refl
weight_is (e ∷ es) = omega (arith, weight_is es, sum_by-cons entry_weight_of e es)

weight_turned : (es : List Entry) → weight (reverse es) ≡ sum_by entry_weight_of es
weight_turned es = weight_is (reverse es) ∙ sum_by-IsPermutation entry_weight_of es (reverse es) (IsPermutation-reverse es)

-- so that of logs, one by one
pub weights_turned : (logs : List Log) → sum_by (λ log. weight (newest log)) logs ≡ sum_by (λ log. sum_by entry_weight_of log.entries) logs
weights_turned logs = ap (λ weigh. sum_by weigh logs) (λ i log. weight_turned log.entries i)

weight_of_all : (logs : List Log) → sum_by entry_weight_of (entries_of_all logs) ≡ sum_by (λ log. weight (newest log)) logs
weight_of_all [] = refl
weight_of_all (log ∷ logs) =
    sum_by-append entry_weight_of log.entries (entries_of_all logs)
    ∙ omega (arith, weight_turned log.entries, weight_of_all logs, sum_by-cons (λ one. weight (newest one)) log logs)

-- The weight of the journal is that of all logs.
pub gathered_weight : GatheredWeight
gathered_weight cells entries gathered =
    weight_turned entries ∙ sum_by-IsPermutation entry_weight_of (entries_of_all (logs_in cells)) entries gathered.merged.all ∙ weight_of_all (logs_in cells)

-- What adds up the weights of all logs is their weight.
pub all_weighed : (cells : Cells) (lender : List ClientCell) (at total : ℕ) → lender ≡ cells.clients.items → length lender ≤ at
    → total ≡ min (sum_by (λ log. sum_by entry_weight_of log.entries) (cells.server.log ∷ own_logs (take at cells.clients.items))) (2 ^ 64 - 1)
    → total ≡ min (sum_by (λ log. weight (newest log)) (logs_in cells)) (2 ^ 64 - 1)
all_weighed cells lender at total same past is =
    is
    ∙ ap (λ ones. min (sum_by (λ log. sum_by entry_weight_of log.entries) (cells.server.log ∷ own_logs ones)) (2 ^ 64 - 1)) (take_all at cells.clients.items (subst (λ ones. length ones ≤ at) same past))
    ∙ ap (λ n. min n (2 ^ 64 - 1)) (sym (weights_turned (logs_in cells)))
