use Rattle.std.proofs.Common.{List, ◌++◌, take}
use Rattle.dso_config.specs.declared.config.RootEntry.{RootEntry}
use Rattle.dso_class.specs.Declarations.{statics_of}
use Rattle.dso_class.specs.Gathered.{statics_named}
use Rattle.dso_config_entries.specs.LastAndFirst.{AreFirsts}
use Rattle.dso_class.proofs.gathered_statics.add_statics.Given as goal

-- the static fields so far stand behind those that were there
abbrev pub invariant-loop-member : goal.invariant-loop-member
invariant-loop-member l = (before : List RootEntry) → AreFirsts before (statics_named l.initial.statics) → AreFirsts (before ++ statics_of l.class (take l.member-index l.members)) (statics_named l.statics)
