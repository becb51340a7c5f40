-- The journal that has all entries of the logs, by their clocks.
use Rattle.std.specs.List.Sorted.{IsNonDecreasingBy, IsPermutation}
use Rattle.std.specs.Prelude.{◌≡◌, List, reverse}
use Rattle.dso_base.specs.declared.journal.Entry.{Entry}
use Rattle.dso_base.specs.declared.journal.Node.{Node}
use Rattle.dso_law.specs.Entries.{entries_of}
use Rattle.dso_log.specs.Logs.{Climbs}
use Rattle.dso_log.specs.Merged.{clock_of}
use Rattle.dso_host.specs.Merged.{AreMerged}

-- Gathered: where the clocks of each log climb, a journal with all entries of all logs in which clocks don't fall is
-- that of the logs. A log stands with the newest first; `all` and the journal don't.
abbrev pub GatheredIsMerged : Type 0
GatheredIsMerged = (log : Node → List Entry) (all journal : List Entry)
    → ((node : Node) → entries_of node all ≡ reverse (log node)) → ((node : Node) → Climbs (log node))
    → IsPermutation all journal → IsNonDecreasingBy clock_of journal → AreMerged log (reverse journal)
