use Rattle.std.proofs.Common.{◌≡◌, drop, reverse}
use Rattle.std.specs.List.{list_any}
use Rattle.dso_base.specs.declared.journal.Node.TheVariants.{Server}
use Rattle.dso_law.specs.Entries.{entries_of}
use Rattle.dso_law.specs.ServerReadings.{is_lost}
use Rattle.dso_run.specs.Failing.{is_loss}
use Rattle.dso_run.proofs.failing.is_lost.Given as goal

-- what is looked for is among the entries left
abbrev pub invariant-loop-entry : goal.invariant-loop-entry
invariant-loop-entry l = is_lost l.client (entries_of Server (reverse l.entries)) ≡ list_any (is_loss l.client) (drop l.entry-index l.entries)
