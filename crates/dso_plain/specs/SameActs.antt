-- The same acts, but for whom they wake; and a state with other marks.
use Rattle.std.specs.Prelude.{◌≡◌, Bool, List, [], ◌∷◌}
use Rattle.dso_base.specs.declared.lock.LockName.{LockName}
use Rattle.dso_base.specs.declared.lock.ThreadId.{ThreadId}
use Rattle.dso_base.specs.declared.request.Event.{Event}
use Rattle.dso_base.specs.declared.request.Event.TheVariants.{Act}
use Rattle.dso_plain.specs.State.{PlainState}

-- the state with other marks
abbrev pub with_marks : (LockName × ThreadId → Bool) → PlainState → PlainState
with_marks marks s = record s { marked = marks }

-- the same act, but for whom it wakes
abbrev pub IsSameAct : Event → Event → Type 0
IsSameAct (Act t request reply woken) (Act t' request' reply' woken') = (t' ≡ t) × (request' ≡ request)
    × (reply' ≡ reply)
IsSameAct e e' = ⊥

-- the same acts in the same order
abbrev pub AreSameActs : List Event → List Event → Type 0
AreSameActs [] [] = Unit {0}
AreSameActs (e ∷ es) (e' ∷ es') = IsSameAct e e' × AreSameActs es es'
AreSameActs es es' = ⊥
