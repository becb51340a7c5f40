use Rattle.std.proofs.Common.{take}
use Rattle.dso_class.specs.Declarations.{all_statics}
use Rattle.dso_class.specs.Gathered.{statics_named}
use Rattle.dso_config_entries.specs.LastAndFirst.{AreFirsts}
use Rattle.dso_class.proofs.gathered_statics.all_statics.Given as goal

-- the static fields of the classes so far
abbrev pub invariant-loop-item : goal.invariant-loop-item
invariant-loop-item l = AreFirsts (all_statics (take l.item-index l.items)) (statics_named l.statics)
