use Rattle.std.proofs.Common.{◌≡◌, length}
use Rattle.dso_config.specs.Sections.{is_new}
use Rattle.dso_config.proofs.section.is_new.Given as goal

-- the entries that still stand decide
abbrev pub invariant-loop-before : goal.invariant-loop-before
invariant-loop-before g l = is_new (g.R.SectionRules.rules l.rules) l.before l.entry ≡ is_new (g.R.SectionRules.rules l.rules) l.initial.before l.entry

abbrev pub decreases-loop-before : goal.decreases-loop-before
decreases-loop-before g l = length l.before
