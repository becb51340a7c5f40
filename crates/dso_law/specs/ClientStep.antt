-- The client rule: which entry may follow a client's entries.
use Rattle.std.specs.List.{list_any}
use Rattle.std.specs.Prelude.{ℕ, suc, ◌≡◌, Bool, true, false, cond, not, eqb, ltb, ◌&&◌, ◌||◌, is_some, Option, Some}
use Rattle.std.specs.Prelude.{None, List, [], ◌∷◌, ◌++◌, map, length}
use Rattle.dso_base.specs.declared.journal.Entry.{Entry}
use Rattle.dso_base.specs.declared.journal.Input.{Input}
use Rattle.dso_base.specs.declared.journal.Input.TheVariants as input
use Rattle.dso_base.specs.declared.journal.Sent.{Sent}
use Rattle.dso_base.specs.declared.journal.Sent.TheVariants.{ToServer}
use Rattle.dso_base.specs.declared.lock.Level.TheVariants.{Write}
use Rattle.dso_base.specs.declared.lock.ThreadId.{ThreadId}
use Rattle.dso_base.specs.declared.message.Down.{Down}
use Rattle.dso_base.specs.declared.message.Up.{Up}
use Rattle.dso_base.specs.declared.message.Up.TheVariants as up
use Rattle.dso_base.specs.declared.record.Ending.{Ending}
use Rattle.dso_base.specs.declared.record.Txn.{Txn}
use Rattle.dso_base.specs.declared.request.Event.{Event}
use Rattle.dso_base.specs.declared.request.Event.TheVariants.{Act, Lost}
use Rattle.dso_base.specs.declared.request.Reply.{Reply}
use Rattle.dso_base.specs.declared.request.Reply.TheVariants.{Done}
use Rattle.dso_base.specs.declared.request.Request.{Request}
use Rattle.dso_base.specs.declared.request.Request.TheVariants.{Put, Enter}
use Rattle.dso_base.specs.Block.{txn_of}
use Rattle.dso_base.specs.Following.{is_thread}
use Rattle.dso_plain.specs.KeyTests.{is_lock}
use Rattle.dso_law.specs.Settings.{Settings, threads_of}
use Rattle.dso_law.specs.Entries.{unsent}
use Rattle.dso_law.specs.Threads.{locks_of, ending_of, open_block, privates_before}
use Rattle.dso_law.specs.Copies.{is_among, is_resident, residents}
use Rattle.dso_law.specs.ClientWaiters.{client_list}
use Rattle.dso_law.specs.Records.{records, unacked}
use Rattle.dso_law.specs.Closing.{is_closing, due}
use Rattle.dso_law.specs.RequestNeeds.{Need, unmet, ask_for}
use Rattle.dso_law.specs.Replies.{woken_by, reply_of}
use Rattle.dso_law.specs.FitsDown.{FitsDown}

-- the record that ends here
abbrev pub record_of : Settings → ThreadId → Event → Option Ending → List Entry → List Up
record_of p t event None es = []
record_of p t event (Some ending) es = up.Commit
    (txn_of p.shape (suc (records es)) t (privates_before p.shape t es) (open_block t es ++ event ∷ []) ending) ∷ []

-- a record exactly where the event is an ending: that of the block, with the client's next number
abbrev pub commits : Settings → ThreadId → Event → List Entry → List Up
commits p t event es = record_of p t event (ending_of event (locks_of t es)) es

-- the leases that the entry gives back, each with the client's list; they are those due after the entry
abbrev pub returns : Settings → ℕ → (ThreadId → Option Request) → List Entry → List Up
returns p c after es = map (λ l. up.Return l (client_list l es)) (due p c after es)

-- the acting thread next enters a lock at Write whose lease wasn't closing before the entry and which the entry
-- returns: it asks again at once; `now` are the entries with this one, es those before it
abbrev pub asks_again : Settings → ℕ → (ThreadId → Option Request) → (ThreadId → Option Request) → Option Request
    → List Entry → List Entry → List Up
asks_again p c before after (Some (Enter l Write)) now es = cond
    (not (is_closing p c before l es) && list_any (is_lock l) (due p c after now)) (up.Request l Write ∷ []) []
asks_again p c before after request now es = []

-- the entry has the event, and sends the record, the leases given back and the request for one of them, in this order
pub record Does (p : Settings) (c : ℕ) (t : ThreadId) (request : Request) (before after : ThreadId → Option Request)
    (e : Entry) (es : List Entry) : Type 0 where
  pub reply : Reply
  pub answered : reply_of p t request es ≡ Some reply
  pub event : e.event ≡ Some (Act t request reply (woken_by request reply es))
  pub sends : e.sent ≡ map ToServer (commits p t (Act t request reply (woken_by request reply es)) es
      ++ returns p c after (unsent e ∷ es) ++ asks_again p c before after (after t) (unsent e ∷ es) es)

-- the entry has no event, and sends what is asked for the need, behind the leases given back
pub record Asks (p : Settings) (c : ℕ) (need : Need) (after : ThreadId → Option Request) (e : Entry)
    (es : List Entry) : Type 0 where
  pub message : Up
  pub asked : ask_for need es ≡ Some message
  pub event : e.event ≡ None
  pub sends : e.sent ≡ map ToServer (returns p c after (unsent e ∷ es) ++ message ∷ [])

-- by the first need that isn't met: where all are, the entry has the event; else it asks for it
abbrev pub DoesOrAsks : Settings → ℕ → ThreadId → Request → Option Need → (ThreadId → Option Request)
    → (ThreadId → Option Request) → Entry → List Entry → Type 0
DoesOrAsks p c t request None before after e es = Does p c t request before after e es
DoesOrAsks p c t request (Some need) before after e es = Asks p c need after e es

-- an act of a thread that has a next request; there is none after its end
abbrev pub ActsOn : Settings → ℕ → ThreadId → Option Request → (ThreadId → Option Request)
    → (ThreadId → Option Request) → Entry → List Entry → Type 0
ActsOn p c t None before after e es = ⊥
ActsOn p c t (Some request) before after e es = DoesOrAsks p c t request (unmet p c before t request es)
    before after e es

-- an act entry of one of the client's threads
pub record ActStep (p : Settings) (c t_index : ℕ) (before after : ThreadId → Option Request) (e : Entry)
    (es : List Entry) : Type 0 where
  pub its : list_any (is_thread (record { client = c; index = t_index })) p.threads ≡ true
  pub acts : ActsOn p c (record { client = c; index = t_index })
      (before (record { client = c; index = t_index })) before after e es

-- a message taken: it fits, there is no event, and the entry sends the leases to be given back alone
pub record TakenStep (p : Settings) (c : ℕ) (m : Down) (after : ThreadId → Option Request) (e : Entry)
    (es : List Entry) : Type 0 where
  pub fits : FitsDown p c m es
  pub event : e.event ≡ None
  pub sends : e.sent ≡ map ToServer (returns p c after (unsent e ∷ es))

-- whether the record has the object among its news or sets a field of it
abbrev pub changes_object : ℕ → Txn → Bool
changes_object o txn = is_among o txn.news || list_any (λ set. eqb set.object o) txn.sets

-- whether the act is a done put to the object
abbrev pub puts_to : ℕ → Request → Reply → Bool
puts_to o (Put x f v) Done = eqb x o
puts_to o request reply = false

-- whether the event is a done put to the object
abbrev pub event_puts_to : ℕ → Event → Bool
event_puts_to o (Act t request reply woken) = puts_to o request reply
event_puts_to o (Lost client) = false

-- whether the message asks for the object
abbrev pub faults : ℕ → Sent → Bool
faults o (ToServer (up.Fault x)) = eqb x o
faults o sent = false

-- whether the entry is an act of the thread of this index
abbrev pub is_act : ℕ → Input → Bool
is_act index (input.Act i) = eqb i index
is_act index other = false

-- whether the last act entry of the client's thread of this index asked for the object
abbrev pub wants_object : ℕ → ℕ → List Entry → Bool
wants_object o index [] = false
wants_object o index (e ∷ es) = cond (is_act index e.input) (list_any (faults o) e.sent) (wants_object o index es)

-- Flushable: the object is resident; no record that isn't acknowledged changes it, no open block of the client puts to
-- it, and no thread's last act entry asked for it.
abbrev pub is_flushable : Settings → ℕ → ℕ → List Entry → Bool
is_flushable p c o es = is_resident o es && (not (list_any (changes_object o) (unacked es))
    && (not (list_any (λ t. list_any (event_puts_to o) (open_block t es)) (threads_of p c))
    && not (list_any (λ t. wants_object o t.index es) (threads_of p c))))

-- whether more objects are resident than the client is to keep
abbrev pub is_full : Settings → List Entry → Bool
is_full p es = ltb p.resident (length (residents es))

-- Flush: of a flushable object, where more objects are resident than the client is to keep.
pub record MayFlush (p : Settings) (c o : ℕ) (es : List Entry) : Type 0 where
  pub full : is_full p es ≡ true
  pub flushable : is_flushable p c o es ≡ true

-- a flush says so to the server, and has no event
pub record FlushStep (p : Settings) (c o : ℕ) (e : Entry) (es : List Entry) : Type 0 where
  pub may : MayFlush p c o es
  pub event : e.event ≡ None
  pub sends : e.sent ≡ ToServer (up.Flushed o) ∷ []

-- a rejoin of the client's own connection sends nothing and has no event
pub record RejoinStep (c d : ℕ) (e : Entry) : Type 0 where
  pub its : d ≡ c
  pub event : e.event ≡ None
  pub sends : e.sent ≡ []

-- by what the entry takes in
abbrev pub ClientStepOn : Settings → ℕ → Input → (ThreadId → Option Request) → (ThreadId → Option Request) → Entry
    → List Entry → Type 0
ClientStepOn p c (input.Act index) before after e es = ActStep p c index before after e es
ClientStepOn p c (input.TookDown m) before after e es = TakenStep p c m after e es
ClientStepOn p c (input.Flush o) before after e es = FlushStep p c o e es
ClientStepOn p c (input.Rejoin d) before after e es = RejoinStep c d e
ClientStepOn p c other before after e es = ⊥

-- The client rule: e may follow the entries es of client c, where the next request of each thread is as said before the
-- entry and after it.
abbrev pub ClientStep : Settings → ℕ → (ThreadId → Option Request) → (ThreadId → Option Request) → Entry
    → List Entry → Type 0
ClientStep p c before after e es = ClientStepOn p c e.input before after e es

-- whether the client can answer a request whose needs are met, or ask for the need that isn't met
abbrev pub can_do : Settings → ThreadId → Request → Option Need → List Entry → Bool
can_do p t request None es = is_some (reply_of p t request es)
can_do p t request (Some need) es = is_some (ask_for need es)

-- whether the client can do so for the thread's next request; a thread that has none can't act
abbrev pub can_act : Settings → ℕ → (ThreadId → Option Request) → ThreadId → Option Request → List Entry → Bool
can_act p c next t None es = false
can_act p c next t (Some request) es = can_do p t request (unmet p c next t request es) es

-- May act: the client rule has an act entry of the thread.
abbrev pub may_act : Settings → ℕ → (ThreadId → Option Request) → ThreadId → List Entry → Bool
may_act p c next t es = can_act p c next t (next t) es

-- May flush: the client rule has a flush of some object.
abbrev pub may_flush : Settings → ℕ → List Entry → Bool
may_flush p c es = is_full p es && list_any (λ o. is_flushable p c o es) (residents es)
