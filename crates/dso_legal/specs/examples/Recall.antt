-- Two clients pass a lock on by a recall and a return.
use Rattle.std.specs.Prelude.{pos, Option, Some, None, List, [], ◌∷◌, length, slice_get}
use Rattle.dso_base.specs.declared.journal.Entry.{Entry}
use Rattle.dso_base.specs.declared.journal.Input.TheVariants as input
use Rattle.dso_base.specs.declared.journal.Node.TheVariants.{Server, Client}
use Rattle.dso_base.specs.declared.journal.Sent.TheVariants.{ToServer, ToClient}
use Rattle.dso_base.specs.declared.lock.Level.TheVariants.{Write}
use Rattle.dso_base.specs.declared.lock.LockName.TheVariants.{Name}
use Rattle.dso_base.specs.declared.lock.ThreadId.{ThreadId}
use Rattle.dso_base.specs.declared.message.Down.TheVariants as down
use Rattle.dso_base.specs.declared.message.Up.TheVariants as up
use Rattle.dso_base.specs.declared.record.Ending.TheVariants as ending
use Rattle.dso_base.specs.declared.request.Event.{Event}
use Rattle.dso_base.specs.declared.request.Reply.TheVariants as reply
use Rattle.dso_base.specs.declared.request.Request.{Request}
use Rattle.dso_base.specs.declared.request.Request.TheVariants as request
use Rattle.dso_base.specs.declared.shape.Guard.TheVariants as guard
use Rattle.dso_base.specs.declared.value.ClassId.TheVariants as class
use Rattle.dso_base.specs.declared.value.Kind.TheVariants as kind
use Rattle.dso_base.specs.declared.value.Value.TheVariants as value
use Rattle.dso_law.specs.Settings.{Settings}
use Rattle.dso_legal.specs.Slots.{Slot, Acts, TakesDown, TakesUp}
use Rattle.dso_legal.specs.examples.Run.{IsRun}
use Rattle.dso_legal.specs.examples.Words.{thread, body, set, txn, act, entry, class_of_fields, script_of}

-- one class with one long field, one root, two clients with a thread each
abbrev pub settings : Settings
settings = record {
  shape = record {
    classes = class_of_fields (record { kind = kind.Long; guard = guard.Own } ∷ [])
        ∷ [];
    roots = 1;
    names = 1;
    texts = 0;
  };
  clients = 2;
  resident = 4096;
  threads = thread 1 1 ∷ thread 2 1 ∷ [];
  losses = [];
  breaks = [];
}

-- what each thread asks, in order
abbrev pub scripts : List (ThreadId × List Request)
scripts = (
  thread 1 1,
  (request.New (class.Plain 0) 1) ∷ (request.Look 1) ∷ (request.Put 1 0 (value.Long (pos 1)))
      ∷ (request.Enter (Name 0) Write) ∷ (request.Get 0 0) ∷ (request.Put 0 0 (value.Ref 1)) ∷ (request.Exit (Name 0))
      ∷ (request.End None) ∷ [],
)
    ∷ (
      thread 2 1,
      (request.New (class.Plain 0) 1) ∷ (request.Look 257) ∷ (request.Put 257 0 (value.Long (pos 2)))
          ∷ (request.Enter (Name 0) Write) ∷ (request.Get 0 0) ∷ (request.Exit (Name 0)) ∷ (request.End None) ∷ [],
    ) ∷ []

-- the next request of a thread: that of its script after as many events
abbrev pub next : ThreadId → List Event → Option Request
next t events = slice_get (script_of t scripts) (length events)

-- the entries, the newest first
abbrev pub entries : List Entry
entries = entry 29 (Client 2) (input.TookDown (down.Ack 2)) [] None
    ∷ entry 28 Server (input.TookUp 2 (up.Commit (txn 2 (thread 2 1) [] [] [] [] (ending.End None))))
    ((ToClient 2 (down.Ack 2)) ∷ []) None
    ∷ entry 28 (Client 2) (input.TookDown (down.Ack 1)) [] None
    ∷ entry 27 (Client 2) (input.Act 1)
    ((ToServer (up.Commit (txn 2 (thread 2 1) [] [] [] [] (ending.End None)))) ∷ [])
    (Some (act (thread 2 1) (request.End None) reply.Done None))
    ∷ entry 27 Server (input.TookUp 2 (up.Commit (txn 1 (thread 2 1) [] [] [] [] (ending.Exit (Name 0)))))
    ((ToClient 2 (down.Ack 1)) ∷ []) None
    ∷ entry 26 (Client 2) (input.Act 1)
    ((ToServer (up.Commit (txn 1 (thread 2 1) [] [] [] [] (ending.Exit (Name 0))))) ∷ [])
    (Some (act (thread 2 1) (request.Exit (Name 0)) reply.Done None))
    ∷ entry 25 (Client 2) (input.Act 1) [] (Some (act (thread 2 1) (request.Get 0 0) (reply.Val (value.Ref 1)) None))
    ∷ entry 24 (Client 2) (input.TookDown (down.Object (body 0 class.Roots ((value.Ref 1) ∷ [])))) [] None
    ∷ entry 23 Server (input.TookUp 2 (up.Fault 0))
    ((ToClient 2 (down.Object (body 0 class.Roots ((value.Ref 1) ∷ [])))) ∷ []) None
    ∷ entry 22 (Client 2) (input.Act 1) ((ToServer (up.Fault 0)) ∷ []) None
    ∷ entry 21 (Client 2) (input.Act 1) [] (Some (act (thread 2 1) (request.Enter (Name 0) Write) reply.Done None))
    ∷ entry 21 (Client 1) (input.TookDown (down.Ack 2)) [] None
    ∷ entry 20 Server (input.TookUp 1 (up.Commit (txn 2 (thread 1 1) [] [] [] [] (ending.End None))))
    ((ToClient 1 (down.Ack 2)) ∷ []) None
    ∷ entry 20 (Client 2) (input.TookDown (down.Grant (Name 0) Write)) [] None
    ∷ entry 19 Server (input.TookUp 1 (up.Return (Name 0) [])) ((ToClient 2 (down.Grant (Name 0) Write)) ∷ []) None
    ∷ entry 19 (Client 1) (input.TookDown (down.Ack 1)) [] None
    ∷ entry 18 (Client 1) (input.Act 1)
    ((ToServer (up.Commit (txn 2 (thread 1 1) [] [] [] [] (ending.End None)))) ∷ [])
    (Some (act (thread 1 1) (request.End None) reply.Done None))
    ∷ entry 18 Server (input.TookUp 1
    (up.Commit (txn 1 (thread 1 1) ((body 1 (class.Plain 0) ((value.Long (pos 1)) ∷ [])) ∷ [])
    ((set 0 0 (value.Ref 1)) ∷ []) [] [] (ending.Exit (Name 0))))) ((ToClient 1 (down.Ack 1)) ∷ []) None
    ∷ entry 17 (Client 1) (input.Act 1)
    ((ToServer
    (up.Commit (txn 1 (thread 1 1) ((body 1 (class.Plain 0) ((value.Long (pos 1)) ∷ [])) ∷ [])
    ((set 0 0 (value.Ref 1)) ∷ []) [] [] (ending.Exit (Name 0))))) ∷ (ToServer (up.Return (Name 0) [])) ∷ [])
    (Some (act (thread 1 1) (request.Exit (Name 0)) reply.Done None))
    ∷ entry 16 (Client 1) (input.Act 1) [] (Some (act (thread 1 1) (request.Put 0 0 (value.Ref 1)) reply.Done None))
    ∷ entry 15 (Client 1) (input.Act 1) [] (Some (act (thread 1 1) (request.Get 0 0) (reply.Val value.Null) None))
    ∷ entry 14 (Client 1) (input.TookDown (down.Object (body 0 class.Roots (value.Null ∷ [])))) [] None
    ∷ entry 13 Server (input.TookUp 1 (up.Fault 0))
    ((ToClient 1 (down.Object (body 0 class.Roots (value.Null ∷ [])))) ∷ []) None
    ∷ entry 12 (Client 1) (input.Act 1) ((ToServer (up.Fault 0)) ∷ []) None
    ∷ entry 11 (Client 1) (input.TookDown (down.Recall (Name 0))) [] None
    ∷ entry 10 (Client 1) (input.Act 1) [] (Some (act (thread 1 1) (request.Enter (Name 0) Write) reply.Done None))
    ∷ entry 9 (Client 1) (input.TookDown (down.Grant (Name 0) Write)) [] None
    ∷ entry 9 Server (input.TookUp 2 (up.Request (Name 0) Write)) ((ToClient 1 (down.Recall (Name 0))) ∷ []) None
    ∷ entry 8 Server (input.TookUp 1 (up.Request (Name 0) Write)) ((ToClient 1 (down.Grant (Name 0) Write)) ∷ []) None
    ∷ entry 8 (Client 2) (input.Act 1) ((ToServer (up.Request (Name 0) Write)) ∷ []) None
    ∷ entry 7 (Client 1) (input.Act 1) ((ToServer (up.Request (Name 0) Write)) ∷ []) None
    ∷ entry 7 (Client 2) (input.Act 1) []
    (Some (act (thread 2 1) (request.Put 257 0 (value.Long (pos 2))) reply.Done None))
    ∷ entry 6 (Client 1) (input.Act 1) []
    (Some (act (thread 1 1) (request.Put 1 0 (value.Long (pos 1))) reply.Done None))
    ∷ entry 6 (Client 2) (input.Act 1) []
    (Some (act (thread 2 1) (request.Look 257) (reply.Seen (class.Plain 0) 1) None))
    ∷ entry 5 (Client 1) (input.Act 1) [] (Some (act (thread 1 1) (request.Look 1) (reply.Seen (class.Plain 0) 1) None))
    ∷ entry 5 (Client 2) (input.Act 1) []
    (Some (act (thread 2 1) (request.New (class.Plain 0) 1) (reply.Made 257) None))
    ∷ entry 4 (Client 1) (input.Act 1) [] (Some (act (thread 1 1) (request.New (class.Plain 0) 1) (reply.Made 1) None))
    ∷ entry 4 (Client 2) (input.TookDown (down.Ids 257)) [] None
    ∷ entry 3 (Client 1) (input.TookDown (down.Ids 1)) [] None
    ∷ entry 3 Server (input.TookUp 2 up.IdAsk) ((ToClient 2 (down.Ids 257)) ∷ []) None
    ∷ entry 2 Server (input.TookUp 1 up.IdAsk) ((ToClient 1 (down.Ids 1)) ∷ []) None
    ∷ entry 1 (Client 2) (input.Act 1) ((ToServer up.IdAsk) ∷ []) None
    ∷ entry 1 (Client 1) (input.Act 1) ((ToServer up.IdAsk) ∷ []) None
    ∷ []

-- the slots that are open before each entry, the last entry first
abbrev pub opens : List (List Slot)
opens = ((TakesDown 2) ∷ [])
    ∷ ((TakesUp 2) ∷ [])
    ∷ ((TakesDown 2) ∷ (TakesUp 2) ∷ [])
    ∷ ((Acts (thread 2 1)) ∷ (TakesDown 2) ∷ [])
    ∷ ((Acts (thread 2 1)) ∷ (TakesUp 2) ∷ [])
    ∷ ((Acts (thread 2 1)) ∷ [])
    ∷ ((Acts (thread 2 1)) ∷ [])
    ∷ ((TakesDown 2) ∷ [])
    ∷ ((TakesUp 2) ∷ [])
    ∷ ((Acts (thread 2 1)) ∷ [])
    ∷ ((Acts (thread 2 1)) ∷ [])
    ∷ ((TakesDown 1) ∷ (Acts (thread 2 1)) ∷ [])
    ∷ ((Acts (thread 2 1)) ∷ (TakesUp 1) ∷ [])
    ∷ ((TakesDown 2) ∷ (TakesUp 1) ∷ [])
    ∷ ((TakesUp 1) ∷ [])
    ∷ ((TakesDown 1) ∷ (TakesUp 1) ∷ [])
    ∷ ((Acts (thread 1 1)) ∷ (TakesDown 1) ∷ (TakesUp 1) ∷ [])
    ∷ ((Acts (thread 1 1)) ∷ (TakesUp 1) ∷ [])
    ∷ ((Acts (thread 1 1)) ∷ [])
    ∷ ((Acts (thread 1 1)) ∷ [])
    ∷ ((Acts (thread 1 1)) ∷ [])
    ∷ ((TakesDown 1) ∷ [])
    ∷ ((TakesUp 1) ∷ [])
    ∷ ((Acts (thread 1 1)) ∷ [])
    ∷ ((Acts (thread 1 1)) ∷ (TakesDown 1) ∷ [])
    ∷ ((Acts (thread 1 1)) ∷ (TakesDown 1) ∷ [])
    ∷ ((TakesDown 1) ∷ [])
    ∷ ((TakesDown 1) ∷ (TakesUp 2) ∷ [])
    ∷ ((TakesUp 1) ∷ (TakesUp 2) ∷ [])
    ∷ ((Acts (thread 2 1)) ∷ (TakesUp 1) ∷ [])
    ∷ ((Acts (thread 1 1)) ∷ (Acts (thread 2 1)) ∷ [])
    ∷ ((Acts (thread 1 1)) ∷ (Acts (thread 2 1)) ∷ [])
    ∷ ((Acts (thread 1 1)) ∷ (Acts (thread 2 1)) ∷ [])
    ∷ ((Acts (thread 1 1)) ∷ (Acts (thread 2 1)) ∷ [])
    ∷ ((Acts (thread 1 1)) ∷ (Acts (thread 2 1)) ∷ [])
    ∷ ((Acts (thread 1 1)) ∷ (Acts (thread 2 1)) ∷ [])
    ∷ ((Acts (thread 1 1)) ∷ (Acts (thread 2 1)) ∷ [])
    ∷ ((Acts (thread 1 1)) ∷ (TakesDown 2) ∷ [])
    ∷ ((TakesDown 1) ∷ (TakesDown 2) ∷ [])
    ∷ ((TakesDown 1) ∷ (TakesUp 2) ∷ [])
    ∷ ((TakesUp 1) ∷ (TakesUp 2) ∷ [])
    ∷ ((Acts (thread 2 1)) ∷ (TakesUp 1) ∷ [])
    ∷ ((Acts (thread 1 1)) ∷ (Acts (thread 2 1)) ∷ [])
    ∷ []

-- the history that it commits
abbrev pub history : List Event
history = (act (thread 1 1) (request.New (class.Plain 0) 1) (reply.Made 1) None)
    ∷ (act (thread 1 1) (request.Look 1) (reply.Seen (class.Plain 0) 1) None)
    ∷ (act (thread 1 1) (request.Put 1 0 (value.Long (pos 1))) reply.Done None)
    ∷ (act (thread 1 1) (request.Enter (Name 0) Write) reply.Done None)
    ∷ (act (thread 1 1) (request.Get 0 0) (reply.Val value.Null) None)
    ∷ (act (thread 1 1) (request.Put 0 0 (value.Ref 1)) reply.Done None)
    ∷ (act (thread 1 1) (request.Exit (Name 0)) reply.Done None)
    ∷ (act (thread 1 1) (request.End None) reply.Done None)
    ∷ (act (thread 2 1) (request.New (class.Plain 0) 1) (reply.Made 257) None)
    ∷ (act (thread 2 1) (request.Look 257) (reply.Seen (class.Plain 0) 1) None)
    ∷ (act (thread 2 1) (request.Put 257 0 (value.Long (pos 2))) reply.Done None)
    ∷ (act (thread 2 1) (request.Enter (Name 0) Write) reply.Done None)
    ∷ (act (thread 2 1) (request.Get 0 0) (reply.Val (value.Ref 1)) None)
    ∷ (act (thread 2 1) (request.Exit (Name 0)) reply.Done None)
    ∷ (act (thread 2 1) (request.End None) reply.Done None)
    ∷ []

-- the journal is that of a run
abbrev pub RecallJournal : Type 0
RecallJournal = IsRun settings next entries opens history 47
