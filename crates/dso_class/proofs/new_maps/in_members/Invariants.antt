use Rattle.std.proofs.Common.{◌≡◌, flat_map, take}
use Rattle.dso_config_entries.specs.Words.{Word}
use Rattle.dso_class.specs.Maps.{make_map}
use Rattle.dso_class.specs.Mentions.{of_member}
use Rattle.dso_class.proofs.new_maps.in_members.Given as goal

-- whether one of the members so far makes a map
abbrev pub invariant-loop-member : goal.invariant-loop-member
invariant-loop-member l = (class : Word) → l.makes ≡ make_map (flat_map (of_member class) (take l.member-index l.members))
