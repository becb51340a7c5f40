use Rattle.std.proofs.Common.{◌≡◌, ◌++◌, take}
use Rattle.dso_class.specs.Declarations.{statics_of}
use Rattle.dso_class.proofs.names.push_statics.Given as goal

-- the static fields so far stand behind those that were there
abbrev pub invariant-loop-member : goal.invariant-loop-member
invariant-loop-member l = l.roots ≡ l.initial.roots ++ statics_of l.class (take l.member-index l.members)
