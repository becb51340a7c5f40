-- A connection breaks twice and is taken up again.
use Rattle.std.specs.Prelude.{pos, Option, Some, None, List, [], ◌∷◌, length, slice_get}
use Rattle.dso_base.specs.declared.journal.Entry.{Entry}
use Rattle.dso_base.specs.declared.journal.Input.TheVariants as input
use Rattle.dso_base.specs.declared.journal.Node.TheVariants.{Server, Client}
use Rattle.dso_base.specs.declared.journal.Sent.TheVariants.{ToServer, ToClient}
use Rattle.dso_base.specs.declared.lock.Level.TheVariants.{Write}
use Rattle.dso_base.specs.declared.lock.LockName.TheVariants.{Mon}
use Rattle.dso_base.specs.declared.lock.ThreadId.{ThreadId}
use Rattle.dso_base.specs.declared.message.Down.TheVariants as down
use Rattle.dso_base.specs.declared.message.Up.TheVariants as up
use Rattle.dso_base.specs.declared.record.Ending.TheVariants as ending
use Rattle.dso_base.specs.declared.request.Event.{Event}
use Rattle.dso_base.specs.declared.request.Reply.TheVariants as reply
use Rattle.dso_base.specs.declared.request.Request.{Request}
use Rattle.dso_base.specs.declared.request.Request.TheVariants as request
use Rattle.dso_base.specs.declared.shape.Guard.TheVariants as guard
use Rattle.dso_base.specs.declared.value.ClassId.TheVariants as class
use Rattle.dso_base.specs.declared.value.Kind.TheVariants as kind
use Rattle.dso_base.specs.declared.value.Value.TheVariants as value
use Rattle.dso_law.specs.Settings.{Settings}
use Rattle.dso_legal.specs.Slots.{Slot, Acts, TakesDown, TakesUp, Breaks}
use Rattle.dso_legal.specs.examples.Run.{IsRun}
use Rattle.dso_legal.specs.examples.Words.{thread, txn, act, entry, trigger, class_of_fields, script_of}

-- one class with one long field, one client with one thread, whose connection breaks at once and after two messages
abbrev pub settings : Settings
settings = record {
  shape = record {
    classes = class_of_fields (record { kind = kind.Long; guard = guard.Own } ∷ [])
        ∷ [];
    roots = 0;
    names = 0;
    texts = 0;
  };
  clients = 1;
  resident = 4096;
  threads = thread 1 1 ∷ [];
  losses = [];
  breaks = trigger 1 0 ∷ trigger 1 2 ∷ [];
}

-- what each thread asks, in order
abbrev pub scripts : List (ThreadId × List Request)
scripts = (
  thread 1 1,
  (request.New (class.Plain 0) 1) ∷ (request.Enter (Mon 1) Write)
      ∷ (request.Print (value.Long (pos 7))) ∷ (request.Print (value.Long (pos 8))) ∷ (request.End None) ∷ [],
) ∷ []

-- the next request of a thread: that of its script after as many events
abbrev pub next : ThreadId → List Event → Option Request
next t events = slice_get (script_of t scripts) (length events)

-- the entries, the newest first
abbrev pub entries : List Entry
entries = entry 11 (Client 1) (input.TookDown (down.Ack 1)) [] None
    ∷ entry 12 Server (input.Rejoin 1) [] None
    ∷ entry 10 (Client 1) (input.Rejoin 1) [] None
    ∷ entry 11 Server (input.Break 1) [] None
    ∷ entry 10 Server (input.TookUp 1
    (up.Commit (txn 1 (thread 1 1) [] [] ((value.Long (pos 7)) ∷ (value.Long (pos 8)) ∷ []) [] (ending.End None))))
    ((ToClient 1 (down.Ack 1)) ∷ []) None
    ∷ entry 9 (Client 1) (input.Act 1)
    ((ToServer
    (up.Commit (txn 1 (thread 1 1) [] [] ((value.Long (pos 7)) ∷ (value.Long (pos 8)) ∷ []) [] (ending.End None))))
    ∷ []) (Some (act (thread 1 1) (request.End None) reply.Done None))
    ∷ entry 8 (Client 1) (input.Act 1) [] (Some (act (thread 1 1) (request.Print (value.Long (pos 8))) reply.Done None))
    ∷ entry 7 (Client 1) (input.Act 1) [] (Some (act (thread 1 1) (request.Print (value.Long (pos 7))) reply.Done None))
    ∷ entry 6 (Client 1) (input.Act 1) [] (Some (act (thread 1 1) (request.Enter (Mon 1) Write) reply.Local None))
    ∷ entry 5 (Client 1) (input.Act 1) [] (Some (act (thread 1 1) (request.New (class.Plain 0) 1) (reply.Made 1) None))
    ∷ entry 4 (Client 1) (input.TookDown (down.Ids 1)) [] None
    ∷ entry 3 Server (input.TookUp 1 up.IdAsk) ((ToClient 1 (down.Ids 1)) ∷ []) None
    ∷ entry 2 Server (input.Rejoin 1) [] None
    ∷ entry 2 (Client 1) (input.Rejoin 1) [] None
    ∷ entry 1 Server (input.Break 1) [] None
    ∷ entry 1 (Client 1) (input.Act 1) ((ToServer up.IdAsk) ∷ []) None
    ∷ []

-- the slots that are open before each entry, the last entry first
abbrev pub opens : List (List Slot)
opens = ((TakesDown 1) ∷ [])
    ∷ ((TakesUp 1) ∷ [])
    ∷ ((TakesDown 1) ∷ [])
    ∷ ((TakesDown 1) ∷ (Breaks 1) ∷ [])
    ∷ ((TakesUp 1) ∷ [])
    ∷ ((Acts (thread 1 1)) ∷ [])
    ∷ ((Acts (thread 1 1)) ∷ [])
    ∷ ((Acts (thread 1 1)) ∷ [])
    ∷ ((Acts (thread 1 1)) ∷ [])
    ∷ ((Acts (thread 1 1)) ∷ [])
    ∷ ((TakesDown 1) ∷ [])
    ∷ ((TakesUp 1) ∷ [])
    ∷ ((TakesUp 1) ∷ [])
    ∷ ((TakesDown 1) ∷ [])
    ∷ ((Breaks 1) ∷ [])
    ∷ ((Acts (thread 1 1)) ∷ (Breaks 1) ∷ [])
    ∷ []

-- the history that it commits
abbrev pub history : List Event
history = (act (thread 1 1) (request.New (class.Plain 0) 1) (reply.Made 1) None)
    ∷ (act (thread 1 1) (request.Enter (Mon 1) Write) reply.Local None)
    ∷ (act (thread 1 1) (request.Print (value.Long (pos 7))) reply.Done None)
    ∷ (act (thread 1 1) (request.Print (value.Long (pos 8))) reply.Done None)
    ∷ (act (thread 1 1) (request.End None) reply.Done None)
    ∷ []

-- the journal is that of a run
abbrev pub BrokenJournal : Type 0
BrokenJournal = IsRun settings next entries opens history 18
