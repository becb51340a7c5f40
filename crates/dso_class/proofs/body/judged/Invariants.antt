use Rattle.std.proofs.Common.{◌≡◌, ◌≤◌, List, [], map, take, Ok}
use Rattle.std.specs.Borrow.{Bor}
use Rattle.dso_config_entries.specs.Words.{Word}
use Rattle.dso_class.specs.PrecedingMentions.{in_body}
use Rattle.dso_class.specs.Mentions.{Mention}
use Rattle.dso_class.specs.TextProgram.{Source}
use Rattle.dso_class.specs.BodyWalk.{HasMet, IsPlace, IsWalked, met_in, owner_in}
use Rattle.dso_class.proofs.walks.Bodies.{param}
use Rattle.dso_class.proofs.body.judged.Given as goal

-- the parameters so far are judged, there are few of them, and no name is known yet
abbrev pub invariant-loop-count : goal.invariant-loop-count
invariant-loop-count l =
    ((texts : List (Bor Word)) (source : Source) (before : List Mention) → IsPlace source l.place → in_body before ≡ [] → HasMet before (met_in texts l.initial.scope)
    → IsWalked source (owner_in l.place) before (map param (take l.count l.params)) (met_in texts l.initial.scope) (met_in texts l.scope) (λ n a. Unit {0}) (Ok (tt {0})))
    × (l.scope.known ≡ l.initial.scope.known) × (l.count ≤ 8)
