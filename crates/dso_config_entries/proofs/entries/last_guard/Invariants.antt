use Rattle.std.proofs.Common.{take, option_copied}
use Rattle.dso_config_entries.proofs.lists.Last.{IsGuarded}
use Rattle.dso_config_entries.proofs.entries.last_guard.Given as goal

-- the last entry so far
abbrev pub invariant-loop-entry : goal.invariant-loop-entry
invariant-loop-entry l = IsGuarded (take l.entry-index l.entries) l.class l.field (option_copied l.last)
