-- Short words to write journals down.
use Rattle.std.specs.Prelude.{ℕ, cond, Option, List, [], ◌∷◌}
use Rattle.dso_base.specs.declared.journal.Entry.{Entry}
use Rattle.dso_base.specs.declared.journal.Input.{Input}
use Rattle.dso_base.specs.declared.journal.Node.{Node}
use Rattle.dso_base.specs.declared.journal.Sent.{Sent}
use Rattle.dso_base.specs.declared.journal.Trigger.{Trigger}
use Rattle.dso_base.specs.declared.lock.LockName.{LockName}
use Rattle.dso_base.specs.declared.lock.ThreadId.{ThreadId}
use Rattle.dso_base.specs.declared.record.Body.{Body}
use Rattle.dso_base.specs.declared.record.Choice.{Choice}
use Rattle.dso_base.specs.declared.record.Ending.{Ending}
use Rattle.dso_base.specs.declared.record.Note.{Note}
use Rattle.dso_base.specs.declared.record.Set.{Set}
use Rattle.dso_base.specs.declared.record.Txn.{Txn}
use Rattle.dso_base.specs.declared.request.Event.{Event}
use Rattle.dso_base.specs.declared.request.Event.TheVariants.{Act}
use Rattle.dso_base.specs.declared.request.Reply.{Reply}
use Rattle.dso_base.specs.declared.request.Request.{Request}
use Rattle.dso_base.specs.declared.shape.ClassShape.{ClassShape}
use Rattle.dso_base.specs.declared.shape.FieldShape.{FieldShape}
use Rattle.dso_base.specs.declared.value.ClassId.{ClassId}
use Rattle.dso_base.specs.declared.value.Value.{Value}
use Rattle.dso_base.specs.Following.{is_thread}

-- the thread of this index of client c
abbrev pub thread : ℕ → ℕ → ThreadId
thread c index = record { client = c; index = index }

-- an object with its class and values
abbrev pub body : ℕ → ClassId → List Value → Body
body o class values = record { object = o; class = class; values = values }

-- a field of an object with its value
abbrev pub set : ℕ → ℕ → Value → Set
set o f v = record { object = o; field = f; value = v }

-- a notification
abbrev pub note : LockName → Choice → Note
note l choice = record { lock = l; choice = choice }

-- a record of the product
abbrev pub txn : ℕ → ThreadId → List Body → List Set → List Value → List Note → Ending → Txn
txn seq t news sets outs notes ending = record
    { seq = seq; thread = t; news = news; sets = sets; outs = outs; notes = notes; ending = ending }

-- an act of a thread
abbrev pub act : ThreadId → Request → Reply → Option ThreadId → Event
act t request reply woken = Act t request reply woken

-- an entry: its clock, node, input, the messages sent and the event
abbrev pub entry : ℕ → Node → Input → List Sent → Option Event → Entry
entry clock node input sent event = record { clock = clock; node = node; input = input; sent = sent; event = event }

-- a loss or break of client c after so many messages
abbrev pub trigger : ℕ → ℕ → Trigger
trigger c after = record { client = c; after = after }

-- a class with these fields
abbrev pub class_of_fields : List FieldShape → ClassShape
class_of_fields fields = record { fields = fields }

-- the script of a thread, empty where there is none
abbrev pub script_of : ThreadId → List (ThreadId × List Request) → List Request
script_of t [] = []
script_of t (script ∷ scripts) = cond (is_thread t script.0) script.1 (script_of t scripts)
