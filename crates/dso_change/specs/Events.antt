-- Events that make each object once.
use Rattle.std.specs.Prelude.{◌≡◌, None, List, [], ◌∷◌}
use Rattle.dso_base.specs.declared.request.Event.{Event}
use Rattle.dso_base.specs.declared.request.Event.TheVariants.{Act, Lost}
use Rattle.dso_base.specs.declared.request.Reply.{Reply}
use Rattle.dso_base.specs.declared.request.Reply.TheVariants.{Made}
use Rattle.dso_base.specs.declared.request.Request.{Request}
use Rattle.dso_base.specs.declared.request.Request.TheVariants.{New}
use Rattle.dso_base.specs.declared.shape.Shape.{Shape}
use Rattle.dso_base.specs.Block.{Work, body_in, work_after}

-- what a New makes is not in hand: neither private nor published in the open block
abbrev pub IsNewIn : Request → Reply → Work → Type 0
IsNewIn (New class n) (Made o) work = (body_in o work.privates ≡ None) × (body_in o work.news ≡ None)
IsNewIn request reply work = Unit {0}

-- so for an event
abbrev pub IsNew : Event → Work → Type 0
IsNew (Act thread request reply woken) work = IsNewIn request reply work
IsNew (Lost client) work = Unit {0}

-- each New of the events makes an object that is not in hand then
abbrev pub MakesNew : Shape → List Event → Work → Type 0
MakesNew shape [] work = Unit {0}
MakesNew shape (event ∷ events) work = IsNew event work × MakesNew shape events (work_after shape event work)
