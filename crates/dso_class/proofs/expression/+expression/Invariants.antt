use Rattle.std.proofs.Common.{List, map, take, Ok}
use Rattle.dso_class.specs.Mentions.{Mention, all_of, expression}
use Rattle.dso_class.specs.Numbers.{MeansExprs}
use Rattle.dso_class.specs.TextProgram.{Source}
use Rattle.dso_class.specs.BodyWalk.{HasMet, IsPlace, IsWalked, known_in, met_in, owner_in}
use Rattle.dso_class.proofs.expression.+expression.Given as goal

-- the expressions so far are walked
abbrev pub invariant-expressions-loop-tree : goal.invariant-expressions-loop-tree
invariant-expressions-loop-tree l = (source : Source) (before : List Mention) → IsPlace source l.environment.place.now → HasMet before (met_in l.initial.texts l.environment.scope.now)
    → IsWalked source (owner_in l.environment.place.now) before (all_of (map (expression (owner_in l.environment.place.now)) (take l.tree-index l.trees)) (known_in l.environment.scope.now)) (met_in l.initial.texts l.environment.scope.now) (met_in l.texts l.environment.scope.now)
    (λ n all. MeansExprs n (take l.tree-index l.trees) all) (Ok l.all)
