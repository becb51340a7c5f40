-- Which threads of a client an entry of it touches: those whose next act it may make possible or impossible. Each next
-- request is about one topic; an entry touches a few topics, and the thread that acts. Entries stand with the newest
-- first.
use Rattle.std.specs.List.{list_any}
use Rattle.std.specs.Prelude.{ℕ, suc, Bool, true, false, cond, eqb, ◌&&◌, ◌||◌, is_some, Option, Some, None, List, []}
use Rattle.std.specs.Prelude.{◌∷◌, ◌++◌, map, filter, flat_map}
use Rattle.dso_base.specs.declared.journal.Entry.{Entry}
use Rattle.dso_base.specs.declared.journal.Input.{Input}
use Rattle.dso_base.specs.declared.journal.Input.TheVariants as input
use Rattle.dso_base.specs.declared.journal.Sent.{Sent}
use Rattle.dso_base.specs.declared.journal.Sent.TheVariants.{ToServer, ToClient}
use Rattle.dso_base.specs.declared.lock.Level.TheVariants.{Write}
use Rattle.dso_base.specs.declared.lock.LockName.{LockName}
use Rattle.dso_base.specs.declared.lock.ThreadId.{ThreadId}
use Rattle.dso_base.specs.declared.message.Down.{Down}
use Rattle.dso_base.specs.declared.message.Down.TheVariants as down
use Rattle.dso_base.specs.declared.message.Up.{Up}
use Rattle.dso_base.specs.declared.message.Up.TheVariants as up
use Rattle.dso_base.specs.declared.record.Set.{Set}
use Rattle.dso_base.specs.declared.record.Txn.{Txn}
use Rattle.dso_base.specs.declared.request.Event.{Event}
use Rattle.dso_base.specs.declared.request.Event.TheVariants.{Act, Lost}
use Rattle.dso_base.specs.declared.request.Reply.{Reply}
use Rattle.dso_base.specs.declared.request.Reply.TheVariants.{Done, Made}
use Rattle.dso_base.specs.declared.request.Request.{Request}
use Rattle.dso_base.specs.declared.request.Request.TheVariants.{New, Look, Get, Put, Enter, Exit, Wait, Tick, Timeout}
use Rattle.dso_base.specs.declared.request.Request.TheVariants.{Resume, Notify, NotifyAll, Print, End, Pause, Settle}
use Rattle.dso_base.specs.Following.{is_thread}
use Rattle.dso_plain.specs.History.{is_act_of}
use Rattle.dso_plain.specs.KeyTests.{is_lock}
use Rattle.dso_plain.specs.After.{exited}
use Rattle.dso_law.specs.Threads.{hold_of}
use Rattle.dso_law.specs.Leases.{leased, is_entered}
use Rattle.dso_law.specs.ClientWaiters.{client_list}
use Rattle.dso_law.specs.Closing.{is_read}
use Rattle.dso_law.specs.Records.{batches, made, id_at, unacked}

-- what a request is about: the ids that are left, an object, a lock, a thread's records that aren't acknowledged, or
-- nothing that others change
pub data Topic : Type 0 where
  OfIds : Topic
  OfObject : ℕ → Topic
  OfLock : LockName → Topic
  OfRecords : ThreadId → Topic
  OfNothing : Topic

-- what a request of thread t is about
abbrev pub topic_of : ThreadId → Request → Topic
topic_of t (New class n) = OfIds
topic_of t (Look o) = OfObject o
topic_of t (Get o f) = OfObject o
topic_of t (Put o f v) = OfObject o
topic_of t (Enter l level) = OfLock l
topic_of t (Exit l) = OfNothing
topic_of t (Wait l) = OfNothing
topic_of t (Tick l) = OfNothing
topic_of t (Timeout l) = OfNothing
topic_of t (Resume l) = OfLock l
topic_of t (Notify l) = OfNothing
topic_of t (NotifyAll l) = OfNothing
topic_of t (Print v) = OfNothing
topic_of t (End fault) = OfNothing
topic_of t Pause = OfNothing
topic_of t Settle = OfRecords t

-- the same of the next request of a thread; there is none after its end
abbrev pub topic : ThreadId → Option Request → Topic
topic t None = OfNothing
topic t (Some request) = topic_of t request

-- the key is this topic
abbrev pub is_topic : Topic → Topic → Bool
is_topic OfIds OfIds = true
is_topic (OfObject o) (OfObject key) = eqb key o
is_topic (OfLock l) (OfLock key) = is_lock l key
is_topic (OfRecords t) (OfRecords key) = is_thread t key
is_topic about key = false

-- the lock that a thread awaits at Write, by its next request: to enter it so, or to go on after a wait
abbrev pub awaited : Option Request → List Topic
awaited (Some (Enter l Write)) = OfLock l ∷ []
awaited (Some (Resume l)) = OfLock l ∷ []
awaited request = []

-- an object that takes the last id that is left; the entries are the client's before it
abbrev pub made_topics : List Entry → Reply → List Topic
made_topics es (Made o) = cond (is_some (id_at (batches es) (suc (made es)))) [] (OfIds ∷ [])
made_topics es reply = []

-- the records of the thread whose record is acknowledged: the first that waits to be
abbrev pub acked_topics : List Txn → List Topic
acked_topics [] = []
acked_topics (txn ∷ txns) = OfRecords txn.thread ∷ []

-- what a record that is sent touches: that it waits to be acknowledged, and the objects that it publishes
abbrev pub record_topics : Txn → List Topic
record_topics txn = OfRecords txn.thread ∷ map (λ body. OfObject body.object) txn.news

-- what a message to the server touches: what it asks for, gives back or records
abbrev pub up_topics : Up → List Topic
up_topics up.IdAsk = OfIds ∷ []
up_topics (up.Fault o) = OfObject o ∷ []
up_topics (up.Flushed o) = []
up_topics (up.Request l level) = OfLock l ∷ []
up_topics (up.Return l threads) = OfLock l ∷ []
up_topics (up.Commit txn) = record_topics txn

-- the same of what is sent
abbrev pub sent_topics : Sent → List Topic
sent_topics (ToServer m) = up_topics m
sent_topics (ToClient c m) = []

-- the objects whose fields are set
abbrev pub set_topics : List Set → List Topic
set_topics sets = map (λ set. OfObject set.object) sets

-- those that a message taken sets
abbrev pub sets_taken : Input → List Topic
sets_taken (input.TookDown (down.Changes sets)) = set_topics sets
sets_taken input = []

-- those that a record sent sets
abbrev pub sets_sent : Sent → List Topic
sets_sent (ToServer (up.Commit txn)) = set_topics txn.sets
sets_sent sent = []

-- the objects whose fields an entry sets: a value may be there where none was
abbrev pub set_objects : Entry → List Topic
set_objects e = sets_taken e.input ++ flat_map sets_sent e.sent

-- whether the event is an act of the thread
abbrev pub acts : ThreadId → Option Event → Bool
acts t None = false
acts t (Some event) = is_act_of t event

-- the next requests of the client's threads before the entry and after it are arguments, and the client's entries
-- before it
module _ (before after : ThreadId → Option Request) (es : List Entry) where
  -- whether it is a lock with a lease of level Read
  abbrev pub is_of_read : Topic → Bool
  is_of_read (OfLock l) = is_read (leased l es)
  is_of_read about = false

  -- the lease that a thread closes by what it awaits: while a lease of level Read is awaited at Write, it is closing,
  -- and lets no other thread in
  abbrev pub closed_topics : Option Request → List Topic
  closed_topics request = filter is_of_read (awaited request)

  -- what a message taken touches: what it brings or recalls; a waking what the thread that it marks awaits
  abbrev pub down_topics : Down → List Topic
  down_topics (down.Ids first) = OfIds ∷ []
  down_topics (down.Object body) = OfObject body.object ∷ []
  down_topics (down.Grant l level) = OfLock l ∷ []
  down_topics (down.Recall l) = OfLock l ∷ []
  down_topics (down.Ack seq) = acked_topics (unacked es)
  down_topics (down.Changes sets) = []
  down_topics (down.Wake l t) = awaited (after t)

  -- what the entry's input touches: a message taken, the object flushed
  abbrev pub input_topics : Input → List Topic
  input_topics (input.TookDown m) = down_topics m
  input_topics (input.Flush o) = OfObject o ∷ []
  input_topics input = []

  -- what the thread awaits that a notification woke
  abbrev pub woken_topics : Option ThreadId → List Topic
  woken_topics None = []
  woken_topics (Some t) = awaited (after t)

  -- an entry of a lock touches it, but for one more entry of a thread that holds it, with a lease that was entered
  abbrev pub entered_topics : LockName → ThreadId → List Topic
  entered_topics l t = cond (is_some (hold_of t l es) && is_entered l es) [] (OfLock l ∷ [])

  -- an exit touches a lock that the thread then holds no more
  abbrev pub left_topics : LockName → ThreadId → List Topic
  left_topics l t = cond (is_some (exited (hold_of t l es))) [] (OfLock l ∷ [])

  -- what an act of thread t touches by what it does: the lock that it enters, leaves, waits on or holds again; a
  -- notification what the threads that it marks await
  abbrev pub done_topics : ThreadId → Request → Reply → Option ThreadId → List Topic
  done_topics t (Enter l level) Done woken = entered_topics l t
  done_topics t (Exit l) Done woken = left_topics l t
  done_topics t (Wait l) Done woken = OfLock l ∷ []
  done_topics t (Resume l) Done woken = OfLock l ∷ []
  done_topics t (Notify l) Done woken = woken_topics woken
  done_topics t (NotifyAll l) Done woken = flat_map (λ u. awaited (after u)) (client_list l es)
  done_topics t request reply woken = []

  -- what the entry's event touches: by the act, and the lease that the thread closed before it or closes after it
  abbrev pub event_topics : Option Event → List Topic
  event_topics None = []
  event_topics (Some (Act t request reply woken)) = made_topics es reply ++ done_topics t request reply woken
      ++ closed_topics (before t) ++ closed_topics (after t)
  event_topics (Some (Lost client)) = []

  -- the topics that the entry touches, but for what it sets
  abbrev pub touched_topics : Entry → List Topic
  touched_topics e = input_topics e.input ++ event_topics e.event ++ flat_map sent_topics e.sent

  -- Touched: the thread acts, or what its next request is about is touched or set.
  abbrev pub touches_thread : Entry → ThreadId → Option Request → Bool
  touches_thread e t request = acts t e.event
      || list_any (is_topic (topic t request)) (touched_topics e ++ set_objects e)
