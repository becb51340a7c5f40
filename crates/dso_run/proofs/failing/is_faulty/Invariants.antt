use Rattle.std.proofs.Common.{◌≡◌, drop, reverse}
use Rattle.std.specs.List.{list_any}
use Rattle.dso_run.specs.Failing.{tells_fault}
use Rattle.dso_run.specs.RunEnds.{is_faulty}
use Rattle.dso_run.proofs.failing.is_faulty.Given as goal

-- what is looked for is among the entries left
abbrev pub invariant-loop-entry : goal.invariant-loop-entry
invariant-loop-entry l = is_faulty l.threads (reverse l.entries) ≡ list_any (tells_fault l.threads (reverse l.entries)) (drop l.entry-index l.entries)
