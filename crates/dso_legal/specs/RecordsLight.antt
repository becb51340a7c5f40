-- A record that comes is light: it has no more than the journal weighs.
use Rattle.std.specs.Prelude.{ℕ, ◌+◌, ◌≤◌, length, sum_by, Option, List}
use Rattle.dso_base.specs.declared.journal.Entry.{Entry}
use Rattle.dso_base.specs.declared.lock.ThreadId.{ThreadId}
use Rattle.dso_base.specs.declared.message.Up.{Up}
use Rattle.dso_base.specs.declared.message.Up.TheVariants as up
use Rattle.dso_base.specs.declared.record.Txn.{Txn}
use Rattle.dso_base.specs.declared.request.Event.{Event}
use Rattle.dso_base.specs.declared.request.Request.{Request}
use Rattle.dso_base.specs.Weight.{txn_values_of, entry_weight_of}
use Rattle.dso_law.specs.Settings.{Settings}
use Rattle.dso_law.specs.Channels.{up_in_flight, IsFirst}
use Rattle.dso_legal.specs.Lawful.{IsLawful}

-- how much a record has: the objects that it publishes, its notifications, and the values of its objects, its sets and
-- what it printed
abbrev pub amount_of : Txn → ℕ
amount_of txn = length txn.news + length txn.notes + txn_values_of txn

-- the message is a record that has no more than this, or no record
abbrev pub IsLight : ℕ → Up → Type 0
IsLight most (up.Commit txn) = amount_of txn ≤ most
IsLight most m = Unit {0}

-- In a lawful journal the first message in flight to the server of each client, of a lost one too, has no more than
-- the entries weigh: one for each, and one for each value in a message that it sends.
abbrev pub RecordsAreLight : Type 0
RecordsAreLight = (p : Settings) (next : ThreadId → List Event → Option Request) (es : List Entry) → IsLawful p next es
    → (c : ℕ) (m : Up) → IsFirst m (up_in_flight c es) → IsLight (sum_by entry_weight_of es) m
