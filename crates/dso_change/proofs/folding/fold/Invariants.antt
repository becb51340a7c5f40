use Rattle.std.proofs.Common.{◌≡◌, take}
use Rattle.dso_base.specs.Block.{start, worked}
use Rattle.dso_change.specs.Events.{MakesNew}
use Rattle.dso_change.specs.Hands.{hand_in, hand_of, IsOnce}
use Rattle.dso_change.proofs.folding.fold.Given as goal

abbrev pub invariant-loop-event : goal.invariant-loop-event
invariant-loop-event l = IsOnce (start l.classes) → MakesNew l.shape l.events (start l.classes) → hand_in l.privates l.draft ≡ hand_of (worked l.shape (take l.event-index l.events) (start l.classes))
