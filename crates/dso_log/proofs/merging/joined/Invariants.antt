use Rattle.std.proofs.Common.{◌≡◌, List, flat_map}
use Rattle.dso_base.specs.declared.journal.Entry.{Entry}
use Rattle.dso_log.specs.Logs.{Log}
use Rattle.dso_log.specs.Merged.{AllKeep}
use Rattle.dso_log.proofs.merging.joined.Given as goal

-- the entries of the logs so far, each of which keeps what a log does
pub record Joined (yielded : List Log) (entries : List Entry) : Type 0 where
  pub entries_are : entries ≡ flat_map (λ (log : Log). log.entries) yielded
  pub keep : AllKeep yielded

abbrev pub invariant-loop-log : goal.invariant-loop-log
invariant-loop-log l = Joined l.yielded l.entries.items
