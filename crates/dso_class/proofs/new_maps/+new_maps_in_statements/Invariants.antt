use Rattle.std.proofs.Common.{◌≡◌, List, map, take}
use Rattle.dso_config_entries.specs.Words.{Word}
use Rattle.dso_class.specs.Maps.{make_map}
use Rattle.dso_class.specs.Mentions.{Owner, block, statement}
use Rattle.dso_class.proofs.new_maps.+new_maps_in_statements.Given as goal

-- whether one of the statements so far makes a map
abbrev pub invariant-in_block-loop-tree : goal.invariant-in_block-loop-tree
invariant-in_block-loop-tree l = (owner : Owner) (known : List Word) → l.makes ≡ make_map (block (map (statement owner) (take l.tree-index l.trees)) known)
