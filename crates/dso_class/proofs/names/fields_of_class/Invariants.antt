use Rattle.std.proofs.Common.{◌≡◌, take}
use Rattle.dso_class.specs.Gathered.{named_fields}
use Rattle.dso_class.proofs.names.fields_of_class.Given as goal

-- the names so far
abbrev pub invariant-loop-member : goal.invariant-loop-member
invariant-loop-member l = l.words ≡ named_fields (take l.member-index l.members)
