-- A thread that prints keeps another from acting, since it next enters a lock at Write: the lease, which has level Read
-- and was entered, closes, and lets no other thread in.
use Rattle.std.specs.Prelude.{◌≡◌, pos, true, false, Option, Some, None, List, [], ◌∷◌, length, slice_get}
use Rattle.dso_base.specs.declared.journal.Entry.{Entry}
use Rattle.dso_base.specs.declared.journal.Input.TheVariants as input
use Rattle.dso_base.specs.declared.journal.Node.TheVariants.{Server, Client}
use Rattle.dso_base.specs.declared.journal.Sent.TheVariants.{ToServer, ToClient}
use Rattle.dso_base.specs.declared.lock.Level.TheVariants.{Read, Write}
use Rattle.dso_base.specs.declared.lock.LockName.TheVariants.{Name}
use Rattle.dso_base.specs.declared.lock.ThreadId.{ThreadId}
use Rattle.dso_base.specs.declared.message.Down.TheVariants as down
use Rattle.dso_base.specs.declared.message.Up.TheVariants as up
use Rattle.dso_base.specs.declared.request.Event.{Event}
use Rattle.dso_base.specs.declared.request.Reply.TheVariants as reply
use Rattle.dso_base.specs.declared.request.Request.{Request}
use Rattle.dso_base.specs.declared.request.Request.TheVariants as request
use Rattle.dso_base.specs.declared.value.Value.TheVariants as value
use Rattle.dso_law.specs.Settings.{Settings}
use Rattle.dso_legal.specs.Lawful.{IsLawful}
use Rattle.dso_legal.specs.Slots.{Acts, is_open}
use Rattle.dso_legal.specs.examples.Words.{thread, act, entry, script_of}

-- one lock, one client with three threads
abbrev pub settings : Settings
settings = record {
  shape = record { classes = []; roots = 0; names = 1; texts = 0 };
  clients = 1;
  resident = 4096;
  threads = thread 1 1 ∷ thread 1 2 ∷ thread 1 3 ∷ [];
  losses = [];
  breaks = [];
}

-- what each thread asks, in order
abbrev pub scripts : List (ThreadId × List Request)
scripts = (thread 1 1, (request.Print (value.Long (pos 7))) ∷ (request.Enter (Name 0) Write) ∷ [])
    ∷ (thread 1 2, (request.Enter (Name 0) Read) ∷ [])
    ∷ (thread 1 3, (request.Enter (Name 0) Read) ∷ (request.Exit (Name 0)) ∷ [])
    ∷ []

-- the next request of a thread: that of its script after as many events
abbrev pub next : ThreadId → List Event → Option Request
next t events = slice_get (script_of t scripts) (length events)

-- the third thread enters the lock at Read; the newest entry first
abbrev pub entries : List Entry
entries = entry 4 (Client 1) (input.Act 3) [] (Some (act (thread 1 3) (request.Enter (Name 0) Read) reply.Done None))
    ∷ entry 3 (Client 1) (input.TookDown (down.Grant (Name 0) Read)) [] None
    ∷ entry 2 Server (input.TookUp 1 (up.Request (Name 0) Read)) ((ToClient 1 (down.Grant (Name 0) Read)) ∷ []) None
    ∷ entry 1 (Client 1) (input.Act 3) ((ToServer (up.Request (Name 0) Read)) ∷ []) None
    ∷ []

-- the first thread prints
abbrev pub print : Entry
print = entry 5 (Client 1) (input.Act 1) []
    (Some (act (thread 1 1) (request.Print (value.Long (pos 7))) reply.Done None))

-- the journal is lawful, and the second thread, which is to enter the lock at Read, can act before the print and can't
-- after it
pub record PrintCloses : Type 0 where
  pub lawful : IsLawful settings next (print ∷ entries)
  pub open_before : is_open settings next entries (Acts (thread 1 2)) ≡ true
  pub closed_after : is_open settings next (print ∷ entries) (Acts (thread 1 2)) ≡ false
