-- A program that puts a number into a root, where only objects fit: it doesn't stay within its shape. In a lawful
-- journal of it a record comes that doesn't fit.
use Rattle.std.specs.Prelude.{pos, Option, Some, None, List, [], ◌∷◌, length, slice_get}
use Rattle.dso_base.specs.declared.journal.Entry.{Entry}
use Rattle.dso_base.specs.declared.journal.Input.TheVariants as input
use Rattle.dso_base.specs.declared.journal.Node.TheVariants.{Server, Client}
use Rattle.dso_base.specs.declared.journal.Sent.TheVariants.{ToServer, ToClient}
use Rattle.dso_base.specs.declared.lock.Level.TheVariants.{Write}
use Rattle.dso_base.specs.declared.lock.LockName.TheVariants.{Name}
use Rattle.dso_base.specs.declared.lock.ThreadId.{ThreadId}
use Rattle.dso_base.specs.declared.message.Down.TheVariants as down
use Rattle.dso_base.specs.declared.message.Up.{Up}
use Rattle.dso_base.specs.declared.message.Up.TheVariants as up
use Rattle.dso_base.specs.declared.record.Ending.TheVariants as ending
use Rattle.dso_base.specs.declared.request.Event.{Event}
use Rattle.dso_base.specs.declared.request.Reply.TheVariants as reply
use Rattle.dso_base.specs.declared.request.Request.{Request}
use Rattle.dso_base.specs.declared.request.Request.TheVariants as request
use Rattle.dso_base.specs.declared.value.ClassId.TheVariants as class
use Rattle.dso_base.specs.declared.value.Value.TheVariants as value
use Rattle.dso_law.specs.Channels.{up_in_flight, IsFirst}
use Rattle.dso_law.specs.Entries.{entries_of}
use Rattle.dso_law.specs.FitsUp.{FitsUp}
use Rattle.dso_law.specs.ServerReadings.{counted}
use Rattle.dso_legal.specs.Lawful.{IsLawful}
use Rattle.dso_legal.specs.examples.Counter.{settings}
use Rattle.dso_legal.specs.examples.Words.{thread, body, set, txn, act, entry, script_of}

-- what the thread asks, in order
abbrev pub scripts : List (ThreadId × List Request)
scripts = (
  thread 1 1,
  (request.Enter (Name 0) Write) ∷ (request.Put 0 0 (value.Long (pos 5)))
      ∷ (request.Exit (Name 0)) ∷ (request.End None) ∷ [],
) ∷ []

abbrev pub next : ThreadId → List Event → Option Request
next t events = slice_get (script_of t scripts) (length events)

-- its record
abbrev pub unfit : Up
unfit = up.Commit (txn 1 (thread 1 1) [] ((set 0 0 (value.Long (pos 5))) ∷ []) [] [] (ending.Exit (Name 0)))

-- the entries up to the one that sends it, the newest first
abbrev pub entries : List Entry
entries = entry 9 (Client 1) (input.Act 1) ((ToServer unfit) ∷ [])
    (Some (act (thread 1 1) (request.Exit (Name 0)) reply.Done None))
    ∷ entry 8 (Client 1) (input.Act 1) []
    (Some (act (thread 1 1) (request.Put 0 0 (value.Long (pos 5))) reply.Done None))
    ∷ entry 7 (Client 1) (input.TookDown (down.Object (body 0 class.Roots (value.Null ∷ [])))) [] None
    ∷ entry 6 Server (input.TookUp 1 (up.Fault 0))
    ((ToClient 1 (down.Object (body 0 class.Roots (value.Null ∷ [])))) ∷ []) None
    ∷ entry 5 (Client 1) (input.Act 1) ((ToServer (up.Fault 0)) ∷ []) None
    ∷ entry 4 (Client 1) (input.Act 1) []
    (Some (act (thread 1 1) (request.Enter (Name 0) Write) reply.Done None))
    ∷ entry 3 (Client 1) (input.TookDown (down.Grant (Name 0) Write)) [] None
    ∷ entry 2 Server (input.TookUp 1 (up.Request (Name 0) Write)) ((ToClient 1 (down.Grant (Name 0) Write)) ∷ []) None
    ∷ entry 1 (Client 1) (input.Act 1) ((ToServer (up.Request (Name 0) Write)) ∷ []) None
    ∷ []

-- The journal is lawful, and the record is the first in flight and doesn't fit.
pub record Unfitting : Type 0 where
  pub lawful : IsLawful settings next entries
  pub comes : IsFirst unfit (up_in_flight 1 entries)
  pub misfits : FitsUp settings 1 unfit (counted (entries_of Server entries)) → ⊥
