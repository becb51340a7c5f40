use Rattle.std.proofs.Common.{take}
use Rattle.dso_config_entries.proofs.locking.Roots as laws
use Rattle.dso_config_entries.proofs.entries.names_root.Given as goal

-- none of the entries so far names the field
abbrev pub invariant-loop-root : goal.invariant-loop-root
invariant-loop-root l = laws.NoneNames (take l.root-index l.roots) l.class l.field
