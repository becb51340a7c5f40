use Rattle.std.proofs.Common.{take}
use Rattle.dso_config_entries.specs.ConfigEntries.{Matches}
use Rattle.dso_config_entries.specs.LastAndFirst.{LastGives}
use Rattle.dso_config_entries.proofs.entries.last_grade.Given as goal

-- the level so far is that of the last entry so far
abbrev pub invariant-loop-entry : goal.invariant-loop-entry
invariant-loop-entry l = LastGives (λ entry. Matches entry.method l.class l.method) (λ entry. entry.grade) (take l.entry-index l.entries) l.grade
