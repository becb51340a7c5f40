-- A client's records are numbered in order, and acknowledged in order.
use Rattle.std.specs.Prelude.{ℕ, suc, ◌≡◌, false, Option, List, []}
use Rattle.dso_base.specs.declared.journal.Entry.{Entry}
use Rattle.dso_base.specs.declared.journal.Node.TheVariants.{Server, Client}
use Rattle.dso_base.specs.declared.lock.ThreadId.{ThreadId}
use Rattle.dso_base.specs.declared.message.Down.{Down}
use Rattle.dso_base.specs.declared.message.Down.TheVariants as down
use Rattle.dso_base.specs.declared.message.Up.{Up}
use Rattle.dso_base.specs.declared.message.Up.TheVariants as up
use Rattle.dso_base.specs.declared.record.Txn.{Txn}
use Rattle.dso_base.specs.declared.request.Event.{Event}
use Rattle.dso_base.specs.declared.request.Request.{Request}
use Rattle.dso_law.specs.Settings.{Settings}
use Rattle.dso_law.specs.Entries.{entries_of}
use Rattle.dso_law.specs.Channels.{up_in_flight, down_in_flight, IsFirst}
use Rattle.dso_law.specs.FitsDown.{FitsAck}
use Rattle.dso_law.specs.Records.{records, unacked_by_taken, unacked_by_sent, unacked}
use Rattle.dso_law.specs.ServerReadings.{is_lost, counted, last_number}
use Rattle.dso_legal.specs.Agreement.{messages, Agree}
use Rattle.dso_legal.specs.Lawful.{IsLawful}

-- any message, in any status
abbrev pub Always : {M S : Type 0} → M → S → Type 0
Always m s = Unit {0}

-- no message changes the status
abbrev pub unchanged : {M S : Type 0} → M → S → S
unchanged m s = s

-- a record has the number after the last one
abbrev pub HasNextNumber : Up → ℕ → Type 0
HasNextNumber (up.Commit txn) n = txn.seq ≡ suc n
HasNextNumber m n = Unit {0}

-- and its number is then the last one
abbrev pub number_sent : Up → ℕ → ℕ
number_sent (up.Commit txn) n = txn.seq
number_sent m n = n

-- an acknowledgement is of the first record that isn't acknowledged
abbrev pub IsOfFirst : Down → List Txn → Type 0
IsOfFirst (down.Ack seq) txns = FitsAck seq txns
IsOfFirst m txns = Unit {0}

-- The records of a client, in flight and at both ends: those in flight to the server have the numbers after the
-- server's last one, up to the client's; and those that the client has unacknowledged are those in flight to the
-- server behind those whose acknowledgements are in flight to the client, which come in their order.
pub record RecordsInOrder (c : ℕ) (es : List Entry) : Type 0 where
  pub numbers : Agree HasNextNumber number_sent Always unchanged (messages (up_in_flight c es))
      (messages (down_in_flight c es))
      (last_number c (counted (entries_of Server es))) (records (entries_of (Client c) es))
  pub acknowledged : Agree Always unacked_by_sent IsOfFirst unacked_by_taken (messages (up_in_flight c es))
      (messages (down_in_flight c es))
      [] (unacked (entries_of (Client c) es))

-- In a lawful journal the records of each client that isn't lost are so.
abbrev pub RecordsStayInOrder : Type 0
RecordsStayInOrder = (p : Settings) (next : ThreadId → List Event → Option Request) (es : List Entry)
    → IsLawful p next es
    → (c : ℕ) → is_lost c (entries_of Server es) ≡ false → RecordsInOrder c es

-- the first message in flight in each direction, of a client, where it is a record or an acknowledgement, fits
pub record RecordsFirst (c : ℕ) (es : List Entry) : Type 0 where
  pub ups : (m : Up) → IsFirst m (up_in_flight c es) → HasNextNumber m (last_number c (counted (entries_of Server es)))
  pub downs : (m : Down) → IsFirst m (down_in_flight c es) → IsOfFirst m (unacked (entries_of (Client c) es))

-- In a lawful journal, for each client that isn't lost, a record that comes has the server's next number, and an
-- acknowledgement that comes is of the first record that isn't acknowledged.
abbrev pub RecordsFit : Type 0
RecordsFit = (p : Settings) (next : ThreadId → List Event → Option Request) (es : List Entry) → IsLawful p next es
    → (c : ℕ) → is_lost c (entries_of Server es) ≡ false → RecordsFirst c es
