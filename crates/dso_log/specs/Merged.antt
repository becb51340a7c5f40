-- The journal of several nodes: all their entries by clock, and where clocks are one by node.
use Rattle.std.specs.Prelude.{ℕ, ◌+◌, ◌<◌, ◌≤◌, ◌≡◌, ◌≢◌, flat_map, length, List, [], ◌∷◌, slice_index_or}
use Rattle.std.specs.List.{AllByRecursion}
use Rattle.std.specs.List.Sorted.{IsNonDecreasingBy, IsPermutation}
use Rattle.dso_base.specs.declared.journal.Entry.{Entry}
use Rattle.dso_base.specs.declared.journal.Node.{Node}
use Rattle.dso_base.specs.declared.journal.Node.TheVariants.{Server, Client}
use Rattle.dso_log.specs.Logs.{Log, LogKeeps}

-- the number of a node, the server first
abbrev pub node_number : Node → ℕ
node_number Server = 0
node_number (Client c) = 1 + c

abbrev pub clock_of : Entry → ℕ
clock_of entry = entry.clock

abbrev pub node_of : Entry → ℕ
node_of entry = node_number entry.node

-- all entries of the logs
abbrev pub entries_of_all : List Log → List Entry
entries_of_all logs = flat_map (λ log. log.entries) logs

-- the clocks rise, and of neighbours with one clock so do the nodes
pub record AreInOrder (entries : List Entry) : Type 0 where
  pub clocks : IsNonDecreasingBy clock_of entries
  pub nodes : (k : ℕ) (d : Entry) → k + 1 < length entries
      → clock_of (slice_index_or entries k d) ≡ clock_of (slice_index_or entries (k + 1) d)
      → node_of (slice_index_or entries k d) ≤ node_of (slice_index_or entries (k + 1) d)

-- the list has all entries of the logs, in order
pub record IsMerged (logs : List Log) (entries : List Entry) : Type 0 where
  pub all : IsPermutation (entries_of_all logs) entries
  pub order : AreInOrder entries

-- each of the logs keeps what a log does
abbrev pub AllKeep : List Log → Type 0
AllKeep logs = AllByRecursion (λ log. LogKeeps log.node log.entries) logs

-- no two of the logs are of one node
abbrev pub AreOfDifferentNodes : List Log → Type 0
AreOfDifferentNodes [] = Unit {0}
AreOfDifferentNodes (log ∷ logs) = AllByRecursion (λ other. other.node ≢ log.node) logs × AreOfDifferentNodes logs

-- it is the one list that has all entries of the logs in order
abbrev pub IsTheMerged : List Log → List Entry → Type 0
IsTheMerged logs entries = (other : List Entry) → IsMerged logs other → other ≡ entries
