use Rattle.std.proofs.Common.{◌≡◌, List, map, take}
use Rattle.dso_config_entries.specs.Words.{Word}
use Rattle.dso_class.specs.Maps.{make_map}
use Rattle.dso_class.specs.Mentions.{Owner, all_of, expression}
use Rattle.dso_class.proofs.new_maps.+new_maps.Given as goal

-- whether one of the expressions so far makes a map
abbrev pub invariant-in_expressions-loop-tree : goal.invariant-in_expressions-loop-tree
invariant-in_expressions-loop-tree l = (owner : Owner) (known : List Word) → l.makes ≡ make_map (all_of (map (expression owner) (take l.tree-index l.trees)) known)
