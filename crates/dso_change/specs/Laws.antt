-- The record of a block and the record of the work in hand are one.
use Rattle.std.specs.Prelude.{ℕ, ◌≡◌, List}
use Rattle.dso_base.specs.declared.lock.ThreadId.{ThreadId}
use Rattle.dso_base.specs.declared.record.Body.{Body}
use Rattle.dso_base.specs.declared.record.Ending.{Ending}
use Rattle.dso_base.specs.declared.request.Event.{Event}
use Rattle.dso_base.specs.declared.shape.Shape.{Shape}
use Rattle.dso_base.specs.Block.{start, worked, txn_of}
use Rattle.dso_change.specs.Hands.{record_from}

-- Records: the record of a block's events is that of the work in hand after them.
abbrev pub RecordsAgree : Type 0
RecordsAgree = (shape : Shape) (seq : ℕ) (thread : ThreadId) (privates : List Body) (events : List Event)
    (ending : Ending)
    → txn_of shape seq thread privates events ending
    ≡ record_from seq thread (worked shape events (start privates)) ending
