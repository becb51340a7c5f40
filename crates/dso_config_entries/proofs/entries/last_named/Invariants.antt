use Rattle.std.proofs.Common.{take, option_copied}
use Rattle.dso_config_entries.proofs.lists.Last.{IsNamed}
use Rattle.dso_config_entries.proofs.entries.last_named.Given as goal

-- the last entry so far
abbrev pub invariant-loop-entry : goal.invariant-loop-entry
invariant-loop-entry l = IsNamed (take l.entry-index l.entries) l.class l.method (option_copied l.last)
