use Rattle.std.proofs.Common.{◌≡◌, ◌≤◌, List, length, take}
use Rattle.dso_class.specs.Gathered.{named_fields, AreFieldRows}
use Rattle.dso_config_entries.specs.Words.{Word}
use Rattle.dso_class.proofs.gathering.Multimap.{AreWithFields}
use Rattle.dso_class.proofs.gathered_fields.add_fields.Given as goal

-- the fields so far have their places behind those of the classes before
abbrev pub invariant-loop-member : goal.invariant-loop-member
invariant-loop-member l = (l.number ≡ length (named_fields (take l.member-index l.members))) × (l.number ≤ l.member-index)
    × ((before : List (List Word)) → AreFieldRows before l.initial.rows → AreWithFields before l.class (named_fields (take l.member-index l.members)) l.rows)
