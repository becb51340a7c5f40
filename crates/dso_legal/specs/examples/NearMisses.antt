-- Lawful journals in which a message comes that is near to not fitting, and fits.
use Rattle.std.specs.Prelude.{◌≡◌, true, Option, Some, None, List, [], ◌∷◌, length, slice_get}
use Rattle.dso_base.specs.declared.journal.Entry.{Entry}
use Rattle.dso_base.specs.declared.journal.Input.TheVariants as input
use Rattle.dso_base.specs.declared.journal.Node.TheVariants.{Server, Client}
use Rattle.dso_base.specs.declared.journal.Sent.TheVariants.{ToServer, ToClient}
use Rattle.dso_base.specs.declared.lock.Level.TheVariants.{Read, Write}
use Rattle.dso_base.specs.declared.lock.LockName.TheVariants.{Name}
use Rattle.dso_base.specs.declared.lock.ThreadId.{ThreadId}
use Rattle.dso_base.specs.declared.message.Down.{Down}
use Rattle.dso_base.specs.declared.message.Down.TheVariants as down
use Rattle.dso_base.specs.declared.message.Up.{Up}
use Rattle.dso_base.specs.declared.message.Up.TheVariants as up
use Rattle.dso_base.specs.declared.record.Ending.TheVariants as ending
use Rattle.dso_base.specs.declared.request.Event.{Event}
use Rattle.dso_base.specs.declared.request.Reply.TheVariants as reply
use Rattle.dso_base.specs.declared.request.Request.{Request}
use Rattle.dso_base.specs.declared.request.Request.TheVariants as request
use Rattle.dso_base.specs.declared.value.ClassId.TheVariants as class
use Rattle.dso_base.specs.declared.value.Value.TheVariants as value
use Rattle.dso_law.specs.Channels.{up_in_flight, down_in_flight, IsFirst}
use Rattle.dso_law.specs.Entries.{entries_of}
use Rattle.dso_law.specs.FitsDown.{FitsDown}
use Rattle.dso_law.specs.FitsUp.{FitsUp}
use Rattle.dso_law.specs.ServerReadings.{is_lost, counted}
use Rattle.dso_law.specs.Settings.{Settings}
use Rattle.dso_legal.specs.Lawful.{IsLawful}
use Rattle.dso_legal.specs.examples.Counter as counter
use Rattle.dso_legal.specs.examples.Words.{thread, body, txn, act, entry, trigger, script_of}

-- the counter's shape, two clients with a thread each
abbrev pub two_clients : Settings
two_clients = record counter.settings { clients = 2; threads = thread 1 1 ∷ thread 2 1 ∷ [] }

-- the program by the threads' scripts
abbrev pub scripted : List (ThreadId × List Request) → ThreadId → List Event → Option Request
scripted scripts t events = slice_get (script_of t scripts) (length events)

-- the journal is lawful, and in it the message comes from client 1 and fits
pub record ComesUp (p : Settings) (scripts : List (ThreadId × List Request)) (entries : List Entry)
    (m : Up) : Type 0 where
  pub lawful : IsLawful p (scripted scripts) entries
  pub comes : IsFirst m (up_in_flight 1 entries)
  pub fits : FitsUp p 1 m (counted (entries_of Server entries))

-- the journal is lawful, and in it the message comes to client 1, which is lost, and fits
pub record ComesToLost (p : Settings) (scripts : List (ThreadId × List Request)) (entries : List Entry)
    (m : Down) : Type 0 where
  pub lawful : IsLawful p (scripted scripts) entries
  pub lost : is_lost 1 (entries_of Server entries) ≡ true
  pub comes : IsFirst m (down_in_flight 1 entries)
  pub fits : FitsDown p 1 m (entries_of (Client 1) entries)

-- ---- a request that crosses a recall: its lease was given back before, and is recalled all the same

abbrev pub crossing_scripts : List (ThreadId × List Request)
crossing_scripts =
    (thread 1 1, (request.Enter (Name 0) Read) ∷ (request.Exit (Name 0)) ∷ (request.Enter (Name 0) Write) ∷ [])
    ∷ (thread 2 1, (request.Enter (Name 0) Write) ∷ []) ∷ []

abbrev pub crossing_record : Up
crossing_record = up.Commit (txn 1 (thread 1 1) [] [] [] [] (ending.Exit (Name 0)))

abbrev pub crossing_entries : List Entry
crossing_entries = entry 7 Server (input.TookUp 1 (up.Return (Name 0) []))
    ((ToClient 2 (down.Grant (Name 0) Write)) ∷ []) None
    ∷ entry 6 Server (input.TookUp 1 crossing_record) ((ToClient 1 (down.Ack 1)) ∷ []) None
    ∷ entry 5 (Client 1) (input.Act 1)
    ((ToServer crossing_record) ∷ (ToServer (up.Return (Name 0) [])) ∷ (ToServer (up.Request (Name 0) Write)) ∷ [])
    (Some (act (thread 1 1) (request.Exit (Name 0)) reply.Done None))
    ∷ entry 3 Server (input.TookUp 2 (up.Request (Name 0) Write)) ((ToClient 1 (down.Recall (Name 0))) ∷ []) None
    ∷ entry 1 (Client 2) (input.Act 1) ((ToServer (up.Request (Name 0) Write)) ∷ []) None
    ∷ entry 4 (Client 1) (input.Act 1) [] (Some (act (thread 1 1) (request.Enter (Name 0) Read) reply.Done None))
    ∷ entry 3 (Client 1) (input.TookDown (down.Grant (Name 0) Read)) [] None
    ∷ entry 2 Server (input.TookUp 1 (up.Request (Name 0) Read)) ((ToClient 1 (down.Grant (Name 0) Read)) ∷ []) None
    ∷ entry 1 (Client 1) (input.Act 1) ((ToServer (up.Request (Name 0) Read)) ∷ []) None
    ∷ []

-- ---- a return that carries a waiter whose timeout is behind it

abbrev pub carrying_scripts : List (ThreadId × List Request)
carrying_scripts =
    (thread 1 1, (request.Enter (Name 0) Write) ∷ (request.Wait (Name 0)) ∷ (request.Timeout (Name 0)) ∷ [])
    ∷ (thread 2 1, (request.Enter (Name 0) Write) ∷ []) ∷ []

abbrev pub waiting_record : Up
waiting_record = up.Commit (txn 1 (thread 1 1) [] [] [] [] (ending.Wait (Name 0)))

abbrev pub carrying_return : Up
carrying_return = up.Return (Name 0) (thread 1 1 ∷ [])

abbrev pub carrying_entries : List Entry
carrying_entries = entry 7 Server (input.TookUp 1 waiting_record) ((ToClient 1 (down.Ack 1)) ∷ []) None
    ∷ entry 7 (Client 1) (input.Act 1)
    ((ToServer (up.Commit (txn 2 (thread 1 1) [] [] [] [] (ending.Timeout (Name 0))))) ∷ [])
    (Some (act (thread 1 1) (request.Timeout (Name 0)) reply.Done None))
    ∷ entry 6 (Client 1) (input.Act 1) ((ToServer waiting_record) ∷ (ToServer carrying_return) ∷ [])
    (Some (act (thread 1 1) (request.Wait (Name 0)) reply.Done None))
    ∷ entry 5 (Client 1) (input.TookDown (down.Recall (Name 0))) [] None
    ∷ entry 3 Server (input.TookUp 2 (up.Request (Name 0) Write)) ((ToClient 1 (down.Recall (Name 0))) ∷ []) None
    ∷ entry 1 (Client 2) (input.Act 1) ((ToServer (up.Request (Name 0) Write)) ∷ []) None
    ∷ entry 4 (Client 1) (input.Act 1) [] (Some (act (thread 1 1) (request.Enter (Name 0) Write) reply.Done None))
    ∷ entry 3 (Client 1) (input.TookDown (down.Grant (Name 0) Write)) [] None
    ∷ entry 2 Server (input.TookUp 1 (up.Request (Name 0) Write)) ((ToClient 1 (down.Grant (Name 0) Write)) ∷ []) None
    ∷ entry 1 (Client 1) (input.Act 1) ((ToServer (up.Request (Name 0) Write)) ∷ []) None
    ∷ []

-- ---- an object to a client that was lost since it asked for it

abbrev pub lost_settings : Settings
lost_settings = record counter.settings { losses = trigger 1 2 ∷ [] }

abbrev pub lost_scripts : List (ThreadId × List Request)
lost_scripts = (thread 1 1, (request.Enter (Name 0) Write) ∷ (request.Get 0 0) ∷ []) ∷ []

abbrev pub lost_object : Down
lost_object = down.Object (body 0 class.Roots (value.Null ∷ []))

abbrev pub lost_entries : List Entry
lost_entries = entry 7 Server (input.Lose 1) [] None
    ∷ entry 6 Server (input.TookUp 1 (up.Fault 0)) ((ToClient 1 lost_object) ∷ []) None
    ∷ entry 5 (Client 1) (input.Act 1) ((ToServer (up.Fault 0)) ∷ []) None
    ∷ entry 4 (Client 1) (input.Act 1) [] (Some (act (thread 1 1) (request.Enter (Name 0) Write) reply.Done None))
    ∷ entry 3 (Client 1) (input.TookDown (down.Grant (Name 0) Write)) [] None
    ∷ entry 2 Server (input.TookUp 1 (up.Request (Name 0) Write)) ((ToClient 1 (down.Grant (Name 0) Write)) ∷ []) None
    ∷ entry 1 (Client 1) (input.Act 1) ((ToServer (up.Request (Name 0) Write)) ∷ []) None
    ∷ []

-- all three
pub record NearMisses : Type 0 where
  pub request_crosses_recall : ComesUp two_clients crossing_scripts crossing_entries (up.Request (Name 0) Write)
  pub return_before_timeout : ComesUp two_clients carrying_scripts carrying_entries carrying_return
  pub object_to_lost_client : ComesToLost lost_settings lost_scripts lost_entries lost_object
