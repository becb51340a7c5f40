use Rattle.std.proofs.Common.{◌≡◌, List, map, take, Ok}
use Rattle.dso_class.specs.Mentions.{Mention, block, statement}
use Rattle.dso_class.specs.Numbers.{MeansBlock}
use Rattle.dso_class.specs.TextProgram.{Source}
use Rattle.dso_class.specs.StatementWalk.{known_after}
use Rattle.dso_class.specs.BodyWalk.{HasMet, IsPlace, IsWalked, known_in, met_in, owner_in}
use Rattle.dso_class.proofs.statement.+statement.Given as goal

-- the statements so far are walked, and what they make known is known
abbrev pub invariant-block-loop-tree : goal.invariant-block-loop-tree
invariant-block-loop-tree l =
    ((source : Source) (before : List Mention) → IsPlace source l.place → HasMet before (met_in l.initial.texts l.initial.scope)
    → IsWalked source (owner_in l.place) before (block (map (statement (owner_in l.place)) (take l.tree-index l.trees)) (known_in l.initial.scope)) (met_in l.initial.texts l.initial.scope) (met_in l.texts l.scope)
    (λ n all. MeansBlock n (take l.tree-index l.trees) all) (Ok l.all))
    × (known_in l.scope ≡ known_after (map (statement (owner_in l.place)) (take l.tree-index l.trees)) (known_in l.initial.scope))
