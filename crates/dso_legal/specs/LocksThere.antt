-- A lock that a client asks for is there.
use Rattle.std.specs.Prelude.{ℕ, Option, List}
use Rattle.dso_base.specs.declared.journal.Entry.{Entry}
use Rattle.dso_base.specs.declared.journal.Node.TheVariants.{Server}
use Rattle.dso_base.specs.declared.lock.Level.{Level}
use Rattle.dso_base.specs.declared.lock.LockName.{LockName}
use Rattle.dso_base.specs.declared.lock.ThreadId.{ThreadId}
use Rattle.dso_base.specs.declared.message.Up.TheVariants.{Request as RequestOf}
use Rattle.dso_base.specs.declared.request.Event.{Event}
use Rattle.dso_base.specs.declared.request.Request.{Request}
use Rattle.dso_law.specs.Settings.{Settings}
use Rattle.dso_law.specs.Entries.{entries_of}
use Rattle.dso_law.specs.Channels.{up_in_flight, IsFirst}
use Rattle.dso_law.specs.FitsUp.{IsLock}
use Rattle.dso_law.specs.ServerReadings.{counted}
use Rattle.dso_legal.specs.Lawful.{AllFollow}
use Rattle.dso_legal.specs.SoundProgram.{AsksSoundly, GivesKnownTexts}
use Rattle.dso_legal.specs.WithinShape.{StaysWithinShape}

-- Locks are there: after entries each of which follows those before it, of a sound program that gives only known
-- texts and stays within its shape, a request that comes is of a name that the shape has, or of the monitor of an
-- id that was given out, from each client, a lost one too.
abbrev pub LocksAreThere : Type 0
LocksAreThere = (p : Settings) (next : ThreadId → List Event → Option Request) → AsksSoundly p.shape next
    → GivesKnownTexts p.shape next → StaysWithinShape p.shape next
    → (es : List Entry) → AllFollow p next es → (c : ℕ) (l : LockName) (level : Level)
    → IsFirst (RequestOf l level) (up_in_flight c es) → IsLock p l (counted (entries_of Server es))
