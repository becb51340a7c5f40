-- A record that comes is of a thread of its client that hasn't ended; and who holds an object at the server, it is
-- stored.
use Rattle.std.specs.List.{AllByRecursion, list_any}
use Rattle.std.specs.Prelude.{List, None, Option, false, true, ℕ, ◌≡◌, ◌≢◌}
use Rattle.dso_base.specs.Following.{is_thread}
use Rattle.dso_base.specs.declared.journal.Entry.{Entry}
use Rattle.dso_base.specs.declared.journal.Node.TheVariants.{Server}
use Rattle.dso_base.specs.declared.lock.ThreadId.{ThreadId}
use Rattle.dso_base.specs.declared.message.Up.TheVariants.{Commit}
use Rattle.dso_base.specs.declared.record.Txn.{Txn}
use Rattle.dso_base.specs.declared.request.Event.{Event}
use Rattle.dso_base.specs.declared.request.Request.{Request}
use Rattle.dso_law.specs.Channels.{IsFirst, up_in_flight}
use Rattle.dso_law.specs.Entries.{entries_of}
use Rattle.dso_law.specs.FitsUp.{FitsChoice}
use Rattle.dso_law.specs.ServerReadings.{counted, is_ended, is_lost}
use Rattle.dso_law.specs.Settings.{Settings, threads_of}
use Rattle.dso_law.specs.Store.{holds_object, stored}
use Rattle.dso_legal.specs.Lawful.{AllFollow}
use Rattle.dso_legal.specs.SoundProgram.{AsksSoundly}

-- the thread is one of the client's, and no record taken before ended it; and whom its notifications woke there are
-- threads of the client
pub record IsOwnRecord (p : Settings) (c : ℕ) (server : List Entry) (txn : Txn) : Type 0 where
  pub thread : list_any (is_thread txn.thread) (threads_of p c) ≡ true
  pub going : is_ended txn.thread server ≡ false
  pub woken : AllByRecursion (λ note. FitsChoice p c note.choice) txn.notes

-- Records are own: after entries each of which follows those before it, of a sound program, a record that comes of a
-- client that isn't lost is.
abbrev pub RecordsAreOwn : Type 0
RecordsAreOwn = (p : Settings) (next : ThreadId → List Event → Option Request)
    → AsksSoundly p.shape next → (es : List Entry) → AllFollow p next es → (c : ℕ)
    → is_lost c (entries_of Server es) ≡ false
    → (txn : Txn) → IsFirst (Commit txn) (up_in_flight c es) → IsOwnRecord p c (counted (entries_of Server es)) txn

-- Held objects are stored: after entries each of which follows those before it, each object that a client holds is
-- in the graph.
abbrev pub HeldAreStored : Type 0
HeldAreStored = (p : Settings) (next : ThreadId → List Event → Option Request) (es : List Entry) → AllFollow p next es
    → (c o : ℕ) → holds_object c o (counted (entries_of Server es)) ≡ true
    → stored p.shape o (counted (entries_of Server es)) ≢ None
