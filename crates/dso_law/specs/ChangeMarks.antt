-- Which of a client's objects have a change that the server has not acknowledged.
use Rattle.std.specs.Prelude.{ℕ, ◌<◌, cond, leb, Option, Some, None, List, [], ◌∷◌}
use Rattle.dso_base.specs.declared.journal.Entry.{Entry}
use Rattle.dso_base.specs.declared.journal.Input.{Input}
use Rattle.dso_base.specs.declared.journal.Input.TheVariants.{TookDown}
use Rattle.dso_base.specs.declared.message.Down.{Down}
use Rattle.dso_base.specs.declared.message.Down.TheVariants as down
use Rattle.dso_base.specs.declared.message.Up.{Up}
use Rattle.dso_base.specs.declared.message.Up.TheVariants as up
use Rattle.dso_base.specs.declared.record.Txn.{Txn}
use Rattle.dso_law.specs.Entries.{by_taken_down, by_sent_up}
use Rattle.dso_law.specs.Threads.{or_else}
use Rattle.dso_law.specs.Records.{unacked}
use Rattle.dso_law.specs.FitsDown.{FitsAck}
use Rattle.dso_law.specs.ClientStep.{changes_object}

-- the mark, where its record is later than the one acknowledged
abbrev pub later_mark : ℕ → Option ℕ → Option ℕ
later_mark seq None = None
later_mark seq (Some mark) = cond (leb mark seq) None (Some mark)

-- an acknowledgement drops the mark of its record and of each before it
abbrev pub mark_by_taken : Down → Option ℕ → Option ℕ
mark_by_taken (down.Ack seq) mark = later_mark seq mark
mark_by_taken m mark = mark

-- a record that is sent marks each object that it changes
abbrev pub mark_by_sent : ℕ → Up → Option ℕ → Option ℕ
mark_by_sent o (up.Commit txn) mark = cond (changes_object o txn) (Some txn.seq) mark
mark_by_sent o m mark = mark

-- Mark: the number of the last of the client's records that changes the object, gone with an acknowledgement of at
-- least that number.
abbrev pub change_mark : ℕ → List Entry → Option ℕ
change_mark o [] = None
change_mark o (e ∷ es) = by_sent_up (mark_by_sent o) e.sent (by_taken_down mark_by_taken e.input (change_mark o es))

-- the number of the last of the records that changes the object
abbrev pub last_change : ℕ → List Txn → Option ℕ
last_change o [] = None
last_change o (txn ∷ txns) = or_else (last_change o txns) (cond (changes_object o txn) (Some txn.seq) None)

-- the numbers of the records rise, all above n
abbrev pub RiseAbove : ℕ → List Txn → Type 0
RiseAbove n [] = Unit {0}
RiseAbove n (txn ∷ txns) = (n < txn.seq) × RiseAbove txn.seq txns

-- an acknowledgement that is taken is of the first of the records, and those behind it have greater numbers
abbrev pub AcksFirst : Input → List Txn → Type 0
AcksFirst (TookDown (down.Ack seq)) [] = ⊥
AcksFirst (TookDown (down.Ack seq)) (txn ∷ txns) = FitsAck seq (txn ∷ txns) × RiseAbove seq txns
AcksFirst input txns = Unit {0}

-- records are acknowledged in the order of their numbers
abbrev pub AcksInOrder : List Entry → Type 0
AcksInOrder [] = Unit {0}
AcksInOrder (e ∷ es) = AcksInOrder es × AcksFirst e.input (unacked es)
