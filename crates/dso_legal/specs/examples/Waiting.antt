-- A thread waits at one client, and a thread of another client notifies it.
use Rattle.std.specs.Prelude.{true, false, Option, Some, None, List, [], ◌∷◌, length, slice_get}
use Rattle.dso_base.specs.declared.journal.Entry.{Entry}
use Rattle.dso_base.specs.declared.journal.Input.TheVariants as input
use Rattle.dso_base.specs.declared.journal.Node.TheVariants.{Server, Client}
use Rattle.dso_base.specs.declared.journal.Sent.TheVariants.{ToServer, ToClient}
use Rattle.dso_base.specs.declared.lock.Level.TheVariants.{Read, Write}
use Rattle.dso_base.specs.declared.lock.LockName.TheVariants.{Mon, Name}
use Rattle.dso_base.specs.declared.lock.ThreadId.{ThreadId}
use Rattle.dso_base.specs.declared.message.Down.TheVariants as down
use Rattle.dso_base.specs.declared.message.Up.TheVariants as up
use Rattle.dso_base.specs.declared.record.Choice.TheVariants as choice
use Rattle.dso_base.specs.declared.record.Ending.TheVariants as ending
use Rattle.dso_base.specs.declared.request.Event.{Event}
use Rattle.dso_base.specs.declared.request.Reply.TheVariants as reply
use Rattle.dso_base.specs.declared.request.Request.{Request}
use Rattle.dso_base.specs.declared.request.Request.TheVariants as request
use Rattle.dso_base.specs.declared.shape.Guard.TheVariants as guard
use Rattle.dso_base.specs.declared.value.ClassId.TheVariants as class
use Rattle.dso_base.specs.declared.value.Kind.TheVariants as kind
use Rattle.dso_base.specs.declared.value.Value.TheVariants as value
use Rattle.dso_law.specs.Settings.{Settings}
use Rattle.dso_legal.specs.Slots.{Slot, Acts, TakesDown, TakesUp}
use Rattle.dso_legal.specs.examples.Run.{IsRun}
use Rattle.dso_legal.specs.examples.Words.{thread, body, set, note, txn, act, entry, class_of_fields, script_of}

-- one class with one boolean field, one root, two clients with a thread each
abbrev pub settings : Settings
settings = record {
  shape = record {
    classes = class_of_fields (record { kind = kind.Bool; guard = guard.Own } ∷ [])
        ∷ [];
    roots = 1;
    names = 1;
    texts = 0;
  };
  clients = 2;
  resident = 4096;
  threads = thread 1 1 ∷ thread 2 1 ∷ [];
  losses = [];
  breaks = [];
}

-- what each thread asks, in order
abbrev pub scripts : List (ThreadId × List Request)
scripts = (
  thread 1 1,
  (request.New (class.Plain 0) 1) ∷ (request.Enter (Name 0) Write) ∷ (request.Get 0 0)
      ∷ (request.Put 0 0 (value.Ref 1)) ∷ (request.Exit (Name 0)) ∷ (request.Enter (Name 0) Read) ∷ (request.Get 0 0)
      ∷ (request.Exit (Name 0)) ∷ (request.Look 1) ∷ (request.Enter (Mon 1) Write) ∷ (request.Look 1)
      ∷ (request.Get 1 0) ∷ (request.Wait (Mon 1)) ∷ (request.Resume (Mon 1)) ∷ (request.Look 1) ∷ (request.Get 1 0)
      ∷ (request.Exit (Mon 1)) ∷ (request.End None) ∷ [],
)
    ∷ (
      thread 2 1,
      (request.New (class.Plain 0) 1) ∷ (request.Enter (Name 0) Write) ∷ (request.Get 0 0)
          ∷ (request.Exit (Name 0)) ∷ (request.Enter (Name 0) Read) ∷ (request.Get 0 0) ∷ (request.Exit (Name 0))
          ∷ (request.Look 1) ∷ (request.Enter (Mon 1) Write) ∷ (request.Look 1) ∷ (request.Put 1 0 (value.Bool true))
          ∷ (request.Notify (Mon 1)) ∷ (request.Exit (Mon 1)) ∷ (request.End None) ∷ [],
    ) ∷ []

-- the next request of a thread: that of its script after as many events
abbrev pub next : ThreadId → List Event → Option Request
next t events = slice_get (script_of t scripts) (length events)

-- the entries, the newest first
abbrev pub entries : List Entry
entries = entry 65 (Client 1) (input.TookDown (down.Ack 5)) [] None
    ∷ entry 64 Server (input.TookUp 1 (up.Commit (txn 5 (thread 1 1) [] [] [] [] (ending.End None))))
    ((ToClient 1 (down.Ack 5)) ∷ []) None
    ∷ entry 64 (Client 1) (input.TookDown (down.Ack 4)) [] None
    ∷ entry 63 (Client 1) (input.Act 1)
    ((ToServer (up.Commit (txn 5 (thread 1 1) [] [] [] [] (ending.End None)))) ∷ [])
    (Some (act (thread 1 1) (request.End None) reply.Done None))
    ∷ entry 63 Server (input.TookUp 1 (up.Commit (txn 4 (thread 1 1) [] [] [] [] (ending.Exit (Mon 1)))))
    ((ToClient 1 (down.Ack 4)) ∷ []) None
    ∷ entry 62 (Client 1) (input.Act 1)
    ((ToServer (up.Commit (txn 4 (thread 1 1) [] [] [] [] (ending.Exit (Mon 1))))) ∷ [])
    (Some (act (thread 1 1) (request.Exit (Mon 1)) reply.Done None))
    ∷ entry 61 (Client 1) (input.Act 1) []
    (Some (act (thread 1 1) (request.Get 1 0) (reply.Val (value.Bool true)) None))
    ∷ entry 60 (Client 1) (input.Act 1) []
    (Some (act (thread 1 1) (request.Look 1) (reply.Seen (class.Plain 0) 1) None))
    ∷ entry 59 (Client 1) (input.Act 1) [] (Some (act (thread 1 1) (request.Resume (Mon 1)) reply.Done None))
    ∷ entry 58 (Client 1) (input.TookDown (down.Grant (Mon 1) Write)) [] None
    ∷ entry 57 Server (input.TookUp 2 (up.Return (Mon 1) [])) ((ToClient 1 (down.Grant (Mon 1) Write)) ∷ []) None
    ∷ entry 56 (Client 2) (input.TookDown (down.Recall (Mon 1))) ((ToServer (up.Return (Mon 1) [])) ∷ []) None
    ∷ entry 55 Server (input.TookUp 1 (up.Request (Mon 1) Write)) ((ToClient 2 (down.Recall (Mon 1))) ∷ []) None
    ∷ entry 54 (Client 1) (input.Act 1) ((ToServer (up.Request (Mon 1) Write)) ∷ []) None
    ∷ entry 53 (Client 2) (input.TookDown (down.Ack 4)) [] None
    ∷ entry 53 (Client 1) (input.TookDown (down.Wake (Mon 1) (thread 1 1))) [] None
    ∷ entry 52 Server (input.TookUp 2 (up.Commit (txn 4 (thread 2 1) [] [] [] [] (ending.End None))))
    ((ToClient 2 (down.Ack 4)) ∷ []) None
    ∷ entry 52 (Client 2) (input.TookDown (down.Ack 3)) [] None
    ∷ entry 51 (Client 2) (input.Act 1)
    ((ToServer (up.Commit (txn 4 (thread 2 1) [] [] [] [] (ending.End None)))) ∷ [])
    (Some (act (thread 2 1) (request.End None) reply.Done None))
    ∷ entry 52 (Client 1) (input.TookDown (down.Changes ((set 1 0 (value.Bool true)) ∷ []))) [] None
    ∷ entry 51 Server (input.TookUp 2
    (up.Commit (txn 3 (thread 2 1) [] ((set 1 0 (value.Bool true)) ∷ []) [] ((note (Mon 1) choice.There) ∷ [])
    (ending.Exit (Mon 1)))))
    ((ToClient 2 (down.Ack 3)) ∷ (ToClient 1 (down.Changes ((set 1 0 (value.Bool true)) ∷ [])))
    ∷ (ToClient 1 (down.Wake (Mon 1) (thread 1 1))) ∷ []) None
    ∷ entry 50 (Client 2) (input.Act 1)
    ((ToServer
    (up.Commit (txn 3 (thread 2 1) [] ((set 1 0 (value.Bool true)) ∷ []) [] ((note (Mon 1) choice.There) ∷ [])
    (ending.Exit (Mon 1))))) ∷ []) (Some (act (thread 2 1) (request.Exit (Mon 1)) reply.Done None))
    ∷ entry 49 (Client 2) (input.Act 1) [] (Some (act (thread 2 1) (request.Notify (Mon 1)) reply.Done None))
    ∷ entry 48 (Client 2) (input.Act 1) [] (Some (act (thread 2 1) (request.Put 1 0 (value.Bool true)) reply.Done None))
    ∷ entry 47 (Client 2) (input.Act 1) []
    (Some (act (thread 2 1) (request.Look 1) (reply.Seen (class.Plain 0) 1) None))
    ∷ entry 46 (Client 2) (input.Act 1) [] (Some (act (thread 2 1) (request.Enter (Mon 1) Write) reply.Done None))
    ∷ entry 45 (Client 2) (input.TookDown (down.Grant (Mon 1) Write)) [] None
    ∷ entry 44 Server (input.TookUp 1 (up.Return (Mon 1) ((thread 1 1) ∷ [])))
    ((ToClient 2 (down.Grant (Mon 1) Write)) ∷ []) None
    ∷ entry 44 (Client 1) (input.TookDown (down.Ack 3)) [] None
    ∷ entry 43 Server (input.TookUp 1 (up.Commit (txn 3 (thread 1 1) [] [] [] [] (ending.Wait (Mon 1)))))
    ((ToClient 1 (down.Ack 3)) ∷ []) None
    ∷ entry 42 (Client 1) (input.Act 1)
    ((ToServer (up.Commit (txn 3 (thread 1 1) [] [] [] [] (ending.Wait (Mon 1)))))
    ∷ (ToServer (up.Return (Mon 1) ((thread 1 1) ∷ []))) ∷ [])
    (Some (act (thread 1 1) (request.Wait (Mon 1)) reply.Done None))
    ∷ entry 41 (Client 1) (input.TookDown (down.Recall (Mon 1))) [] None
    ∷ entry 39 (Client 1) (input.Act 1) []
    (Some (act (thread 1 1) (request.Get 1 0) (reply.Val (value.Bool false)) None))
    ∷ entry 40 Server (input.TookUp 2 (up.Request (Mon 1) Write)) ((ToClient 1 (down.Recall (Mon 1))) ∷ []) None
    ∷ entry 39 (Client 2) (input.Act 1) ((ToServer (up.Request (Mon 1) Write)) ∷ []) None
    ∷ entry 38 (Client 1) (input.Act 1) []
    (Some (act (thread 1 1) (request.Look 1) (reply.Seen (class.Plain 0) 1) None))
    ∷ entry 38 (Client 2) (input.Act 1) []
    (Some (act (thread 2 1) (request.Look 1) (reply.Seen (class.Plain 0) 1) None))
    ∷ entry 37 (Client 1) (input.Act 1) [] (Some (act (thread 1 1) (request.Enter (Mon 1) Write) reply.Done None))
    ∷ entry 37 (Client 2) (input.TookDown (down.Object (body 1 (class.Plain 0) ((value.Bool false) ∷ [])))) [] None
    ∷ entry 36 (Client 1) (input.TookDown (down.Grant (Mon 1) Write)) [] None
    ∷ entry 36 Server (input.TookUp 2 (up.Fault 1))
    ((ToClient 2 (down.Object (body 1 (class.Plain 0) ((value.Bool false) ∷ [])))) ∷ []) None
    ∷ entry 35 Server (input.TookUp 1 (up.Request (Mon 1) Write)) ((ToClient 1 (down.Grant (Mon 1) Write)) ∷ []) None
    ∷ entry 34 (Client 2) (input.TookDown (down.Ack 2)) [] None
    ∷ entry 33 (Client 2) (input.Act 1) ((ToServer (up.Fault 1)) ∷ []) None
    ∷ entry 34 (Client 1) (input.Act 1) ((ToServer (up.Request (Mon 1) Write)) ∷ []) None
    ∷ entry 33 Server (input.TookUp 2 (up.Commit (txn 2 (thread 2 1) [] [] [] [] (ending.Exit (Name 0)))))
    ((ToClient 2 (down.Ack 2)) ∷ []) None
    ∷ entry 32 (Client 2) (input.Act 1)
    ((ToServer (up.Commit (txn 2 (thread 2 1) [] [] [] [] (ending.Exit (Name 0))))) ∷ [])
    (Some (act (thread 2 1) (request.Exit (Name 0)) reply.Done None))
    ∷ entry 33 (Client 1) (input.TookDown (down.Ack 2)) [] None
    ∷ entry 32 (Client 1) (input.Act 1) []
    (Some (act (thread 1 1) (request.Look 1) (reply.Seen (class.Plain 0) 1) None))
    ∷ entry 32 Server (input.TookUp 1 (up.Commit (txn 2 (thread 1 1) [] [] [] [] (ending.Exit (Name 0)))))
    ((ToClient 1 (down.Ack 2)) ∷ []) None
    ∷ entry 31 (Client 2) (input.Act 1) [] (Some (act (thread 2 1) (request.Get 0 0) (reply.Val (value.Ref 1)) None))
    ∷ entry 31 (Client 1) (input.Act 1)
    ((ToServer (up.Commit (txn 2 (thread 1 1) [] [] [] [] (ending.Exit (Name 0))))) ∷ [])
    (Some (act (thread 1 1) (request.Exit (Name 0)) reply.Done None))
    ∷ entry 30 (Client 2) (input.Act 1) [] (Some (act (thread 2 1) (request.Enter (Name 0) Read) reply.Done None))
    ∷ entry 30 (Client 1) (input.Act 1) [] (Some (act (thread 1 1) (request.Get 0 0) (reply.Val (value.Ref 1)) None))
    ∷ entry 29 (Client 2) (input.TookDown (down.Grant (Name 0) Read)) [] None
    ∷ entry 29 (Client 1) (input.Act 1) [] (Some (act (thread 1 1) (request.Enter (Name 0) Read) reply.Done None))
    ∷ entry 28 Server (input.TookUp 2 (up.Request (Name 0) Read)) ((ToClient 2 (down.Grant (Name 0) Read)) ∷ []) None
    ∷ entry 28 (Client 1) (input.TookDown (down.Grant (Name 0) Read)) [] None
    ∷ entry 27 Server (input.TookUp 2 (up.Return (Name 0) [])) ((ToClient 1 (down.Grant (Name 0) Read)) ∷ []) None
    ∷ entry 27 (Client 2) (input.TookDown (down.Ack 1)) [] None
    ∷ entry 26 (Client 2) (input.Act 1) ((ToServer (up.Request (Name 0) Read)) ∷ []) None
    ∷ entry 26 Server (input.TookUp 2 (up.Commit (txn 1 (thread 2 1) [] [] [] [] (ending.Exit (Name 0)))))
    ((ToClient 2 (down.Ack 1)) ∷ []) None
    ∷ entry 25 (Client 2) (input.Act 1)
    ((ToServer (up.Commit (txn 1 (thread 2 1) [] [] [] [] (ending.Exit (Name 0)))))
    ∷ (ToServer (up.Return (Name 0) [])) ∷ []) (Some (act (thread 2 1) (request.Exit (Name 0)) reply.Done None))
    ∷ entry 24 (Client 2) (input.Act 1) [] (Some (act (thread 2 1) (request.Get 0 0) (reply.Val (value.Ref 1)) None))
    ∷ entry 23 (Client 2) (input.TookDown (down.Object (body 0 class.Roots ((value.Ref 1) ∷ [])))) [] None
    ∷ entry 22 Server (input.TookUp 2 (up.Fault 0))
    ((ToClient 2 (down.Object (body 0 class.Roots ((value.Ref 1) ∷ [])))) ∷ []) None
    ∷ entry 21 (Client 2) (input.Act 1) ((ToServer (up.Fault 0)) ∷ []) None
    ∷ entry 20 (Client 2) (input.TookDown (down.Recall (Name 0))) [] None
    ∷ entry 19 (Client 2) (input.Act 1) [] (Some (act (thread 2 1) (request.Enter (Name 0) Write) reply.Done None))
    ∷ entry 18 Server (input.TookUp 1 (up.Request (Name 0) Read)) ((ToClient 2 (down.Recall (Name 0))) ∷ []) None
    ∷ entry 18 (Client 2) (input.TookDown (down.Grant (Name 0) Write)) [] None
    ∷ entry 17 Server (input.TookUp 1 (up.Return (Name 0) [])) ((ToClient 2 (down.Grant (Name 0) Write)) ∷ []) None
    ∷ entry 17 (Client 1) (input.TookDown (down.Ack 1)) [] None
    ∷ entry 16 (Client 1) (input.Act 1) ((ToServer (up.Request (Name 0) Read)) ∷ []) None
    ∷ entry 16 Server (input.TookUp 1
    (up.Commit (txn 1 (thread 1 1) ((body 1 (class.Plain 0) ((value.Bool false) ∷ [])) ∷ [])
    ((set 0 0 (value.Ref 1)) ∷ []) [] [] (ending.Exit (Name 0))))) ((ToClient 1 (down.Ack 1)) ∷ []) None
    ∷ entry 15 (Client 1) (input.Act 1)
    ((ToServer
    (up.Commit (txn 1 (thread 1 1) ((body 1 (class.Plain 0) ((value.Bool false) ∷ [])) ∷ [])
    ((set 0 0 (value.Ref 1)) ∷ []) [] [] (ending.Exit (Name 0))))) ∷ (ToServer (up.Return (Name 0) [])) ∷ [])
    (Some (act (thread 1 1) (request.Exit (Name 0)) reply.Done None))
    ∷ entry 14 (Client 1) (input.Act 1) [] (Some (act (thread 1 1) (request.Put 0 0 (value.Ref 1)) reply.Done None))
    ∷ entry 13 (Client 1) (input.Act 1) [] (Some (act (thread 1 1) (request.Get 0 0) (reply.Val value.Null) None))
    ∷ entry 12 (Client 1) (input.TookDown (down.Object (body 0 class.Roots (value.Null ∷ [])))) [] None
    ∷ entry 11 Server (input.TookUp 1 (up.Fault 0))
    ((ToClient 1 (down.Object (body 0 class.Roots (value.Null ∷ [])))) ∷ []) None
    ∷ entry 10 (Client 1) (input.Act 1) ((ToServer (up.Fault 0)) ∷ []) None
    ∷ entry 9 (Client 1) (input.TookDown (down.Recall (Name 0))) [] None
    ∷ entry 8 (Client 1) (input.Act 1) [] (Some (act (thread 1 1) (request.Enter (Name 0) Write) reply.Done None))
    ∷ entry 7 (Client 1) (input.TookDown (down.Grant (Name 0) Write)) [] None
    ∷ entry 7 Server (input.TookUp 2 (up.Request (Name 0) Write)) ((ToClient 1 (down.Recall (Name 0))) ∷ []) None
    ∷ entry 6 Server (input.TookUp 1 (up.Request (Name 0) Write)) ((ToClient 1 (down.Grant (Name 0) Write)) ∷ []) None
    ∷ entry 6 (Client 2) (input.Act 1) ((ToServer (up.Request (Name 0) Write)) ∷ []) None
    ∷ entry 5 (Client 1) (input.Act 1) ((ToServer (up.Request (Name 0) Write)) ∷ []) None
    ∷ entry 5 (Client 2) (input.Act 1) []
    (Some (act (thread 2 1) (request.New (class.Plain 0) 1) (reply.Made 257) None))
    ∷ entry 4 (Client 1) (input.Act 1) [] (Some (act (thread 1 1) (request.New (class.Plain 0) 1) (reply.Made 1) None))
    ∷ entry 4 (Client 2) (input.TookDown (down.Ids 257)) [] None
    ∷ entry 3 (Client 1) (input.TookDown (down.Ids 1)) [] None
    ∷ entry 3 Server (input.TookUp 2 up.IdAsk) ((ToClient 2 (down.Ids 257)) ∷ []) None
    ∷ entry 2 Server (input.TookUp 1 up.IdAsk) ((ToClient 1 (down.Ids 1)) ∷ []) None
    ∷ entry 1 (Client 2) (input.Act 1) ((ToServer up.IdAsk) ∷ []) None
    ∷ entry 1 (Client 1) (input.Act 1) ((ToServer up.IdAsk) ∷ []) None
    ∷ []

-- the slots that are open before each entry, the last entry first
abbrev pub opens : List (List Slot)
opens = ((TakesDown 1) ∷ [])
    ∷ ((TakesUp 1) ∷ [])
    ∷ ((TakesDown 1) ∷ (TakesUp 1) ∷ [])
    ∷ ((Acts (thread 1 1)) ∷ (TakesDown 1) ∷ [])
    ∷ ((Acts (thread 1 1)) ∷ (TakesUp 1) ∷ [])
    ∷ ((Acts (thread 1 1)) ∷ [])
    ∷ ((Acts (thread 1 1)) ∷ [])
    ∷ ((Acts (thread 1 1)) ∷ [])
    ∷ ((Acts (thread 1 1)) ∷ [])
    ∷ ((TakesDown 1) ∷ [])
    ∷ ((TakesUp 2) ∷ [])
    ∷ ((TakesDown 2) ∷ [])
    ∷ ((TakesUp 1) ∷ [])
    ∷ ((Acts (thread 1 1)) ∷ [])
    ∷ ((Acts (thread 1 1)) ∷ (TakesDown 2) ∷ [])
    ∷ ((TakesDown 1) ∷ (TakesDown 2) ∷ [])
    ∷ ((TakesDown 1) ∷ (TakesUp 2) ∷ [])
    ∷ ((TakesDown 1) ∷ (TakesDown 2) ∷ (TakesUp 2) ∷ [])
    ∷ ((TakesDown 1) ∷ (Acts (thread 2 1)) ∷ (TakesDown 2) ∷ [])
    ∷ ((TakesDown 1) ∷ (Acts (thread 2 1)) ∷ (TakesDown 2) ∷ [])
    ∷ ((Acts (thread 2 1)) ∷ (TakesUp 2) ∷ [])
    ∷ ((Acts (thread 2 1)) ∷ [])
    ∷ ((Acts (thread 2 1)) ∷ [])
    ∷ ((Acts (thread 2 1)) ∷ [])
    ∷ ((Acts (thread 2 1)) ∷ [])
    ∷ ((Acts (thread 2 1)) ∷ [])
    ∷ ((TakesDown 2) ∷ [])
    ∷ ((TakesUp 1) ∷ [])
    ∷ ((TakesDown 1) ∷ (TakesUp 1) ∷ [])
    ∷ ((TakesUp 1) ∷ [])
    ∷ ((Acts (thread 1 1)) ∷ [])
    ∷ ((Acts (thread 1 1)) ∷ (TakesDown 1) ∷ [])
    ∷ ((Acts (thread 1 1)) ∷ (TakesDown 1) ∷ [])
    ∷ ((Acts (thread 1 1)) ∷ (TakesUp 2) ∷ [])
    ∷ ((Acts (thread 1 1)) ∷ (Acts (thread 2 1)) ∷ [])
    ∷ ((Acts (thread 1 1)) ∷ (Acts (thread 2 1)) ∷ [])
    ∷ ((Acts (thread 1 1)) ∷ (Acts (thread 2 1)) ∷ [])
    ∷ ((Acts (thread 1 1)) ∷ (Acts (thread 2 1)) ∷ [])
    ∷ ((Acts (thread 1 1)) ∷ (TakesDown 2) ∷ [])
    ∷ ((TakesDown 1) ∷ (TakesDown 2) ∷ [])
    ∷ ((TakesDown 1) ∷ (TakesUp 2) ∷ [])
    ∷ ((TakesUp 1) ∷ (TakesUp 2) ∷ [])
    ∷ ((TakesDown 2) ∷ (TakesUp 1) ∷ (TakesUp 2) ∷ [])
    ∷ ((Acts (thread 2 1)) ∷ (TakesDown 2) ∷ (TakesUp 1) ∷ [])
    ∷ ((Acts (thread 1 1)) ∷ (Acts (thread 2 1)) ∷ (TakesDown 2) ∷ [])
    ∷ ((Acts (thread 1 1)) ∷ (Acts (thread 2 1)) ∷ (TakesUp 2) ∷ [])
    ∷ ((Acts (thread 1 1)) ∷ (Acts (thread 2 1)) ∷ [])
    ∷ ((Acts (thread 1 1)) ∷ (TakesDown 1) ∷ (Acts (thread 2 1)) ∷ [])
    ∷ ((Acts (thread 1 1)) ∷ (TakesDown 1) ∷ (Acts (thread 2 1)) ∷ [])
    ∷ ((Acts (thread 1 1)) ∷ (Acts (thread 2 1)) ∷ (TakesUp 1) ∷ [])
    ∷ ((Acts (thread 1 1)) ∷ (Acts (thread 2 1)) ∷ (TakesUp 1) ∷ [])
    ∷ ((Acts (thread 1 1)) ∷ (Acts (thread 2 1)) ∷ [])
    ∷ ((Acts (thread 1 1)) ∷ (Acts (thread 2 1)) ∷ [])
    ∷ ((Acts (thread 1 1)) ∷ (Acts (thread 2 1)) ∷ [])
    ∷ ((Acts (thread 1 1)) ∷ (TakesDown 2) ∷ [])
    ∷ ((Acts (thread 1 1)) ∷ (TakesDown 2) ∷ [])
    ∷ ((Acts (thread 1 1)) ∷ (TakesUp 2) ∷ [])
    ∷ ((TakesDown 1) ∷ (TakesUp 2) ∷ [])
    ∷ ((TakesUp 2) ∷ [])
    ∷ ((TakesDown 2) ∷ (TakesUp 2) ∷ [])
    ∷ ((Acts (thread 2 1)) ∷ (TakesDown 2) ∷ (TakesUp 2) ∷ [])
    ∷ ((Acts (thread 2 1)) ∷ (TakesUp 2) ∷ [])
    ∷ ((Acts (thread 2 1)) ∷ [])
    ∷ ((Acts (thread 2 1)) ∷ [])
    ∷ ((TakesDown 2) ∷ [])
    ∷ ((TakesUp 2) ∷ [])
    ∷ ((Acts (thread 2 1)) ∷ [])
    ∷ ((Acts (thread 2 1)) ∷ (TakesDown 2) ∷ [])
    ∷ ((Acts (thread 2 1)) ∷ (TakesDown 2) ∷ [])
    ∷ ((Acts (thread 2 1)) ∷ (TakesUp 1) ∷ [])
    ∷ ((TakesDown 2) ∷ (TakesUp 1) ∷ [])
    ∷ ((TakesUp 1) ∷ [])
    ∷ ((TakesDown 1) ∷ (TakesUp 1) ∷ [])
    ∷ ((Acts (thread 1 1)) ∷ (TakesDown 1) ∷ (TakesUp 1) ∷ [])
    ∷ ((Acts (thread 1 1)) ∷ (TakesUp 1) ∷ [])
    ∷ ((Acts (thread 1 1)) ∷ [])
    ∷ ((Acts (thread 1 1)) ∷ [])
    ∷ ((Acts (thread 1 1)) ∷ [])
    ∷ ((TakesDown 1) ∷ [])
    ∷ ((TakesUp 1) ∷ [])
    ∷ ((Acts (thread 1 1)) ∷ [])
    ∷ ((Acts (thread 1 1)) ∷ (TakesDown 1) ∷ [])
    ∷ ((Acts (thread 1 1)) ∷ (TakesDown 1) ∷ [])
    ∷ ((TakesDown 1) ∷ [])
    ∷ ((TakesDown 1) ∷ (TakesUp 2) ∷ [])
    ∷ ((TakesUp 1) ∷ (TakesUp 2) ∷ [])
    ∷ ((Acts (thread 2 1)) ∷ (TakesUp 1) ∷ [])
    ∷ ((Acts (thread 1 1)) ∷ (Acts (thread 2 1)) ∷ [])
    ∷ ((Acts (thread 1 1)) ∷ (Acts (thread 2 1)) ∷ [])
    ∷ ((Acts (thread 1 1)) ∷ (Acts (thread 2 1)) ∷ [])
    ∷ ((Acts (thread 1 1)) ∷ (TakesDown 2) ∷ [])
    ∷ ((TakesDown 1) ∷ (TakesDown 2) ∷ [])
    ∷ ((TakesDown 1) ∷ (TakesUp 2) ∷ [])
    ∷ ((TakesUp 1) ∷ (TakesUp 2) ∷ [])
    ∷ ((Acts (thread 2 1)) ∷ (TakesUp 1) ∷ [])
    ∷ ((Acts (thread 1 1)) ∷ (Acts (thread 2 1)) ∷ [])
    ∷ []

-- the history that it commits
abbrev pub history : List Event
history = (act (thread 1 1) (request.New (class.Plain 0) 1) (reply.Made 1) None)
    ∷ (act (thread 1 1) (request.Enter (Name 0) Write) reply.Done None)
    ∷ (act (thread 1 1) (request.Get 0 0) (reply.Val value.Null) None)
    ∷ (act (thread 1 1) (request.Put 0 0 (value.Ref 1)) reply.Done None)
    ∷ (act (thread 1 1) (request.Exit (Name 0)) reply.Done None)
    ∷ (act (thread 2 1) (request.New (class.Plain 0) 1) (reply.Made 257) None)
    ∷ (act (thread 2 1) (request.Enter (Name 0) Write) reply.Done None)
    ∷ (act (thread 2 1) (request.Get 0 0) (reply.Val (value.Ref 1)) None)
    ∷ (act (thread 2 1) (request.Exit (Name 0)) reply.Done None)
    ∷ (act (thread 1 1) (request.Enter (Name 0) Read) reply.Done None)
    ∷ (act (thread 1 1) (request.Get 0 0) (reply.Val (value.Ref 1)) None)
    ∷ (act (thread 1 1) (request.Exit (Name 0)) reply.Done None)
    ∷ (act (thread 2 1) (request.Enter (Name 0) Read) reply.Done None)
    ∷ (act (thread 2 1) (request.Get 0 0) (reply.Val (value.Ref 1)) None)
    ∷ (act (thread 2 1) (request.Exit (Name 0)) reply.Done None)
    ∷ (act (thread 1 1) (request.Look 1) (reply.Seen (class.Plain 0) 1) None)
    ∷ (act (thread 1 1) (request.Enter (Mon 1) Write) reply.Done None)
    ∷ (act (thread 1 1) (request.Look 1) (reply.Seen (class.Plain 0) 1) None)
    ∷ (act (thread 1 1) (request.Get 1 0) (reply.Val (value.Bool false)) None)
    ∷ (act (thread 1 1) (request.Wait (Mon 1)) reply.Done None)
    ∷ (act (thread 2 1) (request.Look 1) (reply.Seen (class.Plain 0) 1) None)
    ∷ (act (thread 2 1) (request.Enter (Mon 1) Write) reply.Done None)
    ∷ (act (thread 2 1) (request.Look 1) (reply.Seen (class.Plain 0) 1) None)
    ∷ (act (thread 2 1) (request.Put 1 0 (value.Bool true)) reply.Done None)
    ∷ (act (thread 2 1) (request.Notify (Mon 1)) reply.Done (Some (thread 1 1)))
    ∷ (act (thread 2 1) (request.Exit (Mon 1)) reply.Done None)
    ∷ (act (thread 2 1) (request.End None) reply.Done None)
    ∷ (act (thread 1 1) (request.Resume (Mon 1)) reply.Done None)
    ∷ (act (thread 1 1) (request.Look 1) (reply.Seen (class.Plain 0) 1) None)
    ∷ (act (thread 1 1) (request.Get 1 0) (reply.Val (value.Bool true)) None)
    ∷ (act (thread 1 1) (request.Exit (Mon 1)) reply.Done None)
    ∷ (act (thread 1 1) (request.End None) reply.Done None)
    ∷ []

-- the journal is that of a run
abbrev pub WaitingJournal : Type 0
WaitingJournal = IsRun settings next entries opens history 103
