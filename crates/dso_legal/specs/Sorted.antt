-- A record that comes has the objects that it publishes by rising id, and its sets by rising object and field.
use Rattle.std.specs.Prelude.{ℕ, ltb, Option, List}
use Rattle.dso_base.specs.declared.journal.Entry.{Entry}
use Rattle.dso_base.specs.declared.lock.ThreadId.{ThreadId}
use Rattle.dso_base.specs.declared.message.Up.{Up}
use Rattle.dso_base.specs.declared.message.Up.TheVariants as up
use Rattle.dso_base.specs.declared.record.Txn.{Txn}
use Rattle.dso_base.specs.declared.request.Event.{Event}
use Rattle.dso_base.specs.declared.request.Request.{Request}
use Rattle.dso_base.specs.Block.{is_field_before}
use Rattle.dso_law.specs.Settings.{Settings}
use Rattle.dso_law.specs.Channels.{up_in_flight, IsFirst}
use Rattle.dso_law.specs.FitsUp.{Rises}
use Rattle.dso_legal.specs.Lawful.{IsLawful}

-- the record's objects and sets rise
pub record IsSorted (txn : Txn) : Type 0 where
  pub news : Rises (λ a b. ltb a.object b.object) txn.news
  pub sets : Rises is_field_before txn.sets

-- the message is a record that is so, or no record
abbrev pub IsSortedRecord : Up → Type 0
IsSortedRecord (up.Commit txn) = IsSorted txn
IsSortedRecord m = Unit {0}

-- In a lawful journal the first message in flight to the server of each client, of a lost one too, is so.
abbrev pub RecordsAreSorted : Type 0
RecordsAreSorted = (p : Settings) (next : ThreadId → List Event → Option Request) (es : List Entry) → IsLawful p next es
    → (c : ℕ) (m : Up) → IsFirst m (up_in_flight c es) → IsSortedRecord m
