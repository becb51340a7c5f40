-- A record that comes is of locks that are leased to its client: the guards of what it sets, the locks of its
-- notifications, and the lock of its ending.
use Rattle.std.specs.List.{AllByRecursion}
use Rattle.std.specs.Prelude.{List, None, Option, Some, false, ℕ, ◌≡◌, ◌≢◌}
use Rattle.dso_base.specs.Shape.{guard_of}
use Rattle.dso_base.specs.declared.journal.Entry.{Entry}
use Rattle.dso_base.specs.declared.journal.Node.TheVariants.{Server}
use Rattle.dso_base.specs.declared.lock.Level.TheVariants.{Write}
use Rattle.dso_base.specs.declared.lock.ThreadId.{ThreadId}
use Rattle.dso_base.specs.declared.message.Up.TheVariants.{Commit}
use Rattle.dso_base.specs.declared.record.Body.{Body}
use Rattle.dso_base.specs.declared.record.Ending.{Ending}
use Rattle.dso_base.specs.declared.record.Ending.TheVariants.{End, Exit, Timeout, Wait}
use Rattle.dso_base.specs.declared.record.Note.{Note}
use Rattle.dso_base.specs.declared.record.Set.{Set}
use Rattle.dso_base.specs.declared.record.Txn.{Txn}
use Rattle.dso_base.specs.declared.request.Event.{Event}
use Rattle.dso_base.specs.declared.request.Request.{Request}
use Rattle.dso_law.specs.Channels.{IsFirst, up_in_flight}
use Rattle.dso_law.specs.Entries.{entries_of}
use Rattle.dso_law.specs.Granting.{leased_to}
use Rattle.dso_law.specs.ServerReadings.{counted, is_lost}
use Rattle.dso_law.specs.Settings.{Settings}
use Rattle.dso_law.specs.Store.{stored}
use Rattle.dso_legal.specs.Lawful.{AllFollow}
use Rattle.dso_legal.specs.SoundProgram.{GivesKnownTexts, AsksSoundly}
use Rattle.dso_legal.specs.WithinShape.{StaysWithinShape}

-- where the object is stored, the guard of the field that is set is leased to the client at Write
abbrev pub IsGuardLeased : Settings → ℕ → List Entry → Set → Type 0
IsGuardLeased p c server set = (body : Body) → stored p.shape set.object server ≡ Some body
    → leased_to c (guard_of p.shape body.class set.object set.field) server ≡ Some Write

-- the lock of the notification is leased to it at Write
abbrev pub IsNoteLeased : ℕ → List Entry → Note → Type 0
IsNoteLeased c server note = leased_to c note.lock server ≡ Some Write

-- the lock of an exit is leased to it, that of a wait at Write; an end and a timeout need no lease
abbrev pub IsEndingLeased : ℕ → List Entry → Ending → Type 0
IsEndingLeased c server (Exit l) = leased_to c l server ≢ None
IsEndingLeased c server (Wait l) = leased_to c l server ≡ Some Write
IsEndingLeased c server (End fault) = Unit {0}
IsEndingLeased c server (Timeout l) = Unit {0}

-- so all that the record names
pub record IsRecordLeased (p : Settings) (c : ℕ) (server : List Entry) (txn : Txn) : Type 0 where
  pub sets : AllByRecursion (IsGuardLeased p c server) txn.sets
  pub notes : AllByRecursion (IsNoteLeased c server) txn.notes
  pub ending : IsEndingLeased c server txn.ending

-- Records are leased: after entries each of which follows those before it, of a sound program that gives only known
-- texts and stays within its shape, a record that comes of a client that isn't lost is.
abbrev pub RecordsAreLeased : Type 0
RecordsAreLeased = (p : Settings) (next : ThreadId → List Event → Option Request)
    → AsksSoundly p.shape next → GivesKnownTexts p.shape next → StaysWithinShape p.shape next
    → (es : List Entry) → AllFollow p next es → (c : ℕ) → is_lost c (entries_of Server es) ≡ false
    → (txn : Txn) → IsFirst (Commit txn) (up_in_flight c es) → IsRecordLeased p c (counted (entries_of Server es)) txn
