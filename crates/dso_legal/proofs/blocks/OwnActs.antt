-- Each event at a client is the next act of one of its threads by the program: so its threads follow the program,
-- and wait only with the lock held.
use Rattle.std.specs.List.{list_any}
use Rattle.std.proofs.Common.{ℕ, ◌≡◌, ◌⊎◌, inl, inr, refl, sym, subst, Bool, true, false, cond, eqb, ltb, Option, Some, None, List, [], ◌∷◌, ◌++◌}
use Rattle.std.specs.Prelude.{option_map}
use Rattle.dso_base.specs.declared.journal.Entry.{Entry}
use Rattle.dso_base.specs.declared.journal.Input.{Input}
use Rattle.dso_base.specs.declared.journal.Input.TheVariants as input
use Rattle.dso_base.specs.declared.journal.Node.{Node}
use Rattle.dso_base.specs.declared.journal.Node.TheVariants.{Server, Client}
use Rattle.dso_base.specs.declared.lock.Level.{Level}
use Rattle.dso_base.specs.declared.lock.Level.TheVariants.{Read, Write}
use Rattle.dso_base.specs.declared.lock.LockName.{LockName}
use Rattle.dso_base.specs.declared.lock.ThreadId.{ThreadId}
use Rattle.dso_base.specs.declared.request.Event.{Event}
use Rattle.dso_base.specs.declared.request.Event.TheVariants.{Act, Lost}
use Rattle.dso_base.specs.declared.request.Reply.{Reply}
use Rattle.dso_base.specs.declared.request.Reply.TheVariants.{Done, Made, Seen, Val, Local}
use Rattle.dso_base.specs.declared.request.Request.{Request}
use Rattle.dso_base.specs.declared.request.Request.TheVariants.{New, Look, Get, Put, Enter, Exit, Wait, Tick, Timeout, Resume, Notify, NotifyAll, Print, End, Pause, Settle}
use Rattle.dso_base.specs.declared.value.ClassId.{ClassId}
use Rattle.dso_base.specs.declared.value.Value.{Value}
use Rattle.dso_base.specs.declared.value.Value.TheVariants as value
use Rattle.dso_base.specs.Shape.{guard_of}
use Rattle.dso_base.specs.Following.{is_thread, FollowsProgram, IsListed, IsListedFor, Listed}
use Rattle.dso_plain.specs.Touches.{AreActsOf}
use Rattle.dso_plain.proofs.keys.SameKeys.{same_number, same_thread}
use Rattle.dso_plain.proofs.histories.LegalGoesOn.{follows_in_parts}
use Rattle.dso_law.specs.Settings.{Settings}
use Rattle.dso_law.specs.Entries.{entries_of, by_event, add_event, events_in}
use Rattle.dso_law.specs.Threads.{Held, Locks, own, locks_after, locks_of, hold_of, is_private, is_local}
use Rattle.dso_law.specs.ClientWaiters.{is_marked}
use Rattle.dso_law.specs.Records.{next_id}
use Rattle.dso_law.specs.RequestNeeds.{Need, hold_level, unmet}
use Rattle.dso_law.specs.Replies.{put_reply, enter_reply, monitor_reply, timeout_reply, woken_by, class_known, value_seen, value_in, put_answer, answer_put, reply_of}
use Rattle.dso_law.specs.ClientStep.{DoesOrAsks, ActsOn, ClientStepOn, ClientStep}
use Rattle.dso_legal.specs.Lawful.{next_after, ClientFollows, NodeFollows, AllFollow}
use Rattle.dso_legal.specs.PendingBlocks.{no_locks, locks_through}
use Rattle.dso_legal.specs.SoundProgram.{WaitIsHeld, WaitsAreHeld}
use Rattle.dso_legal.proofs.records.BothEnds.{client_with}
use Rattle.dso_legal.proofs.blocks.SameLocks.{same_locks}

-- the entry's event is the next act of a thread of the client: all its needs are met, and it is answered
pub record IsNextAct (p : Settings) (c : ℕ) (before : ThreadId → Option Request) (e : Entry) (own : List Entry) : Type 0 where
  pub thread : ThreadId
  pub request : Request
  pub reply : Reply
  pub its : thread.client ≡ c
  pub among : list_any (is_thread thread) p.threads ≡ true
  pub asked : before thread ≡ Some request
  pub met : unmet p c before thread request own ≡ None
  pub answered : reply_of p thread request own ≡ Some reply
  pub event : e.event ≡ Some (Act thread request reply (woken_by request reply own))

module _ (p : Settings) (c : ℕ) (before after_it : ThreadId → Option Request) (e : Entry) (own : List Entry) where
  module _ (index : ℕ) (its : list_any (is_thread (record { client = c; index = index })) p.threads ≡ true) where
    abbrev actor : ThreadId
    actor = record { client = c; index = index }

    does_next : (request : Request) (need : Option Need) → before actor ≡ Some request → unmet p c before actor request own ≡ need → DoesOrAsks p c actor request need before after_it e own
        → (e.event ≡ None) ⊎ IsNextAct p c before e own
    does_next request None asked met does = inr (record {
      thread = actor;
      request = request;
      reply = does.reply;
      its = refl;
      among = its;
      asked = asked;
      met = met;
      answered = does.answered;
      event = does.event;
    })
    does_next request (Some need) asked met asks = inl asks.event

    acts_next : (request : Option Request) → before actor ≡ request → ActsOn p c actor request before after_it e own → (e.event ≡ None) ⊎ IsNextAct p c before e own
    acts_next None asked acts = absurd acts
    acts_next (Some request) asked acts = does_next request (unmet p c before actor request own) asked refl acts

  event_by : (i : Input) → ClientStepOn p c i before after_it e own → (e.event ≡ None) ⊎ IsNextAct p c before e own
  event_by (input.Act index) step = acts_next index step.its (before (record { client = c; index = index })) refl step.acts
  event_by (input.TookDown m) step = inl step.event
  event_by (input.Flush o) step = inl step.event
  event_by (input.Rejoin d) step = inl step.event
  event_by other step = absurd step

  -- A client's entry has no event, or the next act of one of its threads.
  pub next_act : ClientStep p c before after_it e own → (e.event ≡ None) ⊎ IsNextAct p c before e own
  next_act step = event_by e.input step

-- what is answered is the reply
same_reply : (P : Reply → Type 0) (answer reply : Reply) → Some answer ≡ Some reply → P answer → P reply
same_reply P answer reply same h = subst P (some_same same) h
  where
    some_same : Some answer ≡ Some reply → answer ≡ reply
    some_same e = cc e

-- each kind of answer is listed
made_listed : (class : ClassId) (n : ℕ) (id : Option ℕ) (reply : Reply) → option_map Made id ≡ Some reply → IsListed (New class n) reply
made_listed class n None reply answered = absurd (cc answered)
made_listed class n (Some o) reply answered = same_reply (IsListed (New class n)) (Made o) reply answered tt

look_listed : (o : ℕ) (class : Option (ClassId × ℕ)) (reply : Reply) → option_map (λ (class : ClassId × ℕ). Seen class.0 class.1) class ≡ Some reply → IsListed (Look o) reply
look_listed o None reply answered = absurd (cc answered)
look_listed o (Some class) reply answered = same_reply (IsListed (Look o)) (Seen class.0 class.1) reply answered tt

get_listed : (o f : ℕ) (v : Option Value) (reply : Reply) → option_map Val v ≡ Some reply → IsListed (Get o f) reply
get_listed o f None reply answered = absurd (cc answered)
get_listed o f (Some v) reply answered = same_reply (IsListed (Get o f)) (Val v) reply answered tt

put_by_guard : (o f : ℕ) (v : Value) (level : Option Level) (holds : List Held) → IsListed (Put o f v) (put_reply level holds)
put_by_guard o f v (Some Write) holds = tt
put_by_guard o f v (Some Read) holds = tt
put_by_guard o f v None [] = tt
put_by_guard o f v None (held ∷ holds) = tt

put_if : (o f : ℕ) (v : Value) (private : Bool) (level : Option Level) (holds : List Held) → IsListed (Put o f v) (cond private Done (put_reply level holds))
put_if o f v true level holds = tt
put_if o f v false level holds = put_by_guard o f v level holds

enter_by_level : (l : LockName) (level : Level) (hold : Option Level) → IsListed (Enter l level) (enter_reply level hold)
enter_by_level l Write (Some Read) = tt
enter_by_level l Write (Some Write) = tt
enter_by_level l Write None = tt
enter_by_level l Read hold = tt

enter_if : (l : LockName) (level : Level) (local : Bool) (hold : Option Level) → IsListed (Enter l level) (cond local Local (enter_reply level hold))
enter_if l level true hold = tt
enter_if l level false hold = enter_by_level l level hold

wait_listed : (l : LockName) (level : Option Level) → IsListed (Wait l) (monitor_reply level)
wait_listed l (Some Write) = tt
wait_listed l (Some Read) = tt
wait_listed l None = tt

notify_listed : (l : LockName) (level : Option Level) → IsListed (Notify l) (monitor_reply level)
notify_listed l (Some Write) = tt
notify_listed l (Some Read) = tt
notify_listed l None = tt

notify_all_listed : (l : LockName) (level : Option Level) → IsListed (NotifyAll l) (monitor_reply level)
notify_all_listed l (Some Write) = tt
notify_all_listed l (Some Read) = tt
notify_all_listed l None = tt

timeout_listed : (l : LockName) (woken : Bool) → IsListed (Timeout l) (timeout_reply woken)
timeout_listed l true = tt
timeout_listed l false = tt

module _ (p : Settings) (t : ThreadId) (es : List Entry) where
  put_at : (o f : ℕ) (v : Value) (class : ClassId × ℕ) (b : Bool) (reply : Reply) → cond b (Some (put_answer p t o f class.0 es)) None ≡ Some reply → IsListed (Put o f v) reply
  put_at o f v class true reply answered = same_reply (IsListed (Put o f v)) (put_answer p t o f class.0 es) reply answered
      (put_if o f v (is_private p.shape t o es) (hold_level (hold_of t (guard_of p.shape class.0 o f) es)) (locks_of t es).holds)
  put_at o f v class false reply answered = absurd (cc answered)

  put_listed : (o f : ℕ) (v : Value) (class : Option (ClassId × ℕ)) (reply : Reply) → answer_put p t o f class es ≡ Some reply → IsListed (Put o f v) reply
  put_listed o f v None reply answered = absurd (cc answered)
  put_listed o f v (Some class) reply answered = put_at o f v class (ltb f class.1) reply answered

  -- A client's reply is listed for the request.
  pub reply_listed : (request : Request) (reply : Reply) → reply_of p t request es ≡ Some reply → IsListed request reply
  reply_listed (New class n) reply answered = made_listed class n (next_id es) reply answered
  reply_listed (Look o) reply answered = look_listed o (class_known p t o es) reply answered
  reply_listed (Get o f) reply answered = get_listed o f (value_in p (own p.shape t o es) f (value_seen p t o f es)) reply answered
  reply_listed (Put o f v) reply answered = put_listed o f v (class_known p t o es) reply answered
  reply_listed (Enter l level) reply answered = same_reply (IsListed (Enter l level)) _ reply answered (enter_if l level (is_local p.shape t l es) (hold_level (hold_of t l es)))
  reply_listed (Wait l) reply answered = same_reply (IsListed (Wait l)) _ reply answered (wait_listed l (hold_level (hold_of t l es)))
  reply_listed (Notify l) reply answered = same_reply (IsListed (Notify l)) _ reply answered (notify_listed l (hold_level (hold_of t l es)))
  reply_listed (NotifyAll l) reply answered = same_reply (IsListed (NotifyAll l)) _ reply answered (notify_all_listed l (hold_level (hold_of t l es)))
  reply_listed (Exit l) reply answered = same_reply (IsListed (Exit l)) Done reply answered tt
  reply_listed (Resume l) reply answered = same_reply (IsListed (Resume l)) Done reply answered tt
  reply_listed (Print v) reply answered = same_reply (IsListed (Print v)) Done reply answered tt
  reply_listed (End fault) reply answered = same_reply (IsListed (End fault)) Done reply answered tt
  reply_listed Pause reply answered = same_reply (IsListed Pause) Done reply answered tt
  reply_listed Settle reply answered = same_reply (IsListed Settle) Done reply answered tt
  reply_listed (Tick l) reply answered = same_reply (IsListed (Tick l)) (Val (value.Bool (is_marked t es))) reply answered tt
  reply_listed (Timeout l) reply answered = same_reply (IsListed (Timeout l)) (timeout_reply (is_marked t es)) reply answered (timeout_listed l (is_marked t es))

-- what holds of a thread's events and goes on with each of its acts
module _ (p : Settings) (next : ThreadId → List Event → Option Request) (t : ThreadId) (Holds : List Event → Type 0)
    (goes_on : (e : Entry) (es : List Entry) (it : IsNextAct p t.client (next_after next es) e (entries_of (Client t.client) es)) → it.thread ≡ t → Holds (events_in t (entries_of (Client t.client) es))
    → Holds (events_in t (entries_of (Client t.client) es) ++ Act it.thread it.request it.reply (woken_by it.request it.reply (entries_of (Client t.client) es)) ∷ [])) where
  module _ (e : Entry) (es : List Entry) (so_far : Holds (events_in t (entries_of (Client t.client) es))) where
    abbrev own_entries : List Entry
    own_entries = entries_of (Client t.client) es

    -- goes on with an act at its client,
    by_act : (it : IsNextAct p t.client (next_after next es) e own_entries) (b : Bool) → is_thread t it.thread ≡ b → Holds (cond b (events_in t own_entries ++ Act it.thread it.request it.reply (woken_by it.request it.reply own_entries) ∷ []) (events_in t own_entries))
    by_act it true is = goes_on e es it (same_thread t it.thread is) so_far
    by_act it false is = so_far

    -- with what may be an act,
    by_next : (e.event ≡ None) ⊎ IsNextAct p t.client (next_after next es) e own_entries → Holds (events_in t (e ∷ own_entries))
    by_next (inl none) = subst (λ event. Holds (by_event (add_event t) event (events_in t own_entries))) (sym none) so_far
    by_next (inr it) = subst (λ event. Holds (by_event (add_event t) event (events_in t own_entries))) (sym it.event) (by_act it (is_thread t it.thread) refl)

    -- with any entry that its node's rule allows,
    by_node : (node : Node) → NodeFollows p next node e es → Holds (events_in t (client_with t.client node e es))
    by_node Server rule = so_far
    by_node (Client d) rule = by (eqb t.client d) refl
      where
        by : (b : Bool) → eqb t.client d ≡ b → Holds (events_in t (cond b (e ∷ own_entries) own_entries))
        by true is =
            let mine : ClientFollows p next t.client e es = subst (λ n. ClientFollows p next n e es) (sym (same_number t.client d is)) rule in
            by_next (next_act p t.client (next_after next es) (next_after next (e ∷ es)) e own_entries mine.step)
        by false is = so_far

  -- and so through every lawful journal.
  pub holds_along : Holds [] → (es : List Entry) → AllFollow p next es → Holds (events_in t (entries_of (Client t.client) es))
  holds_along first [] follow = first
  holds_along first (e ∷ es) follow = by_node e es (holds_along first es follow.0) e.node follow.1.rule

module _ (p : Settings) (next : ThreadId → List Event → Option Request) (t : ThreadId) where
  -- the next act of the thread follows its events
  pub act_follows : (e : Entry) (es : List Entry) (it : IsNextAct p t.client (next_after next es) e (entries_of (Client t.client) es)) → it.thread ≡ t → FollowsProgram next (Listed next) t (events_in t (entries_of (Client t.client) es))
      → FollowsProgram next (Listed next) t (events_in t (entries_of (Client t.client) es) ++ Act it.thread it.request it.reply (woken_by it.request it.reply (entries_of (Client t.client) es)) ∷ [])
  act_follows e es it is follows =
      let asked : next t (events_in t (entries_of (Client t.client) es)) ≡ Some it.request = subst (λ u. next_after next es u ≡ Some it.request) is it.asked in
      let listed : Listed next t (events_in t (entries_of (Client t.client) es)) it.reply = subst (λ request. IsListedFor request it.reply) (sym asked) (reply_listed p it.thread (entries_of (Client t.client) es) it.request it.reply it.answered) in
      follows_in_parts next (Listed next) t [] (events_in t (entries_of (Client t.client) es)) (Act it.thread it.request it.reply (woken_by it.request it.reply (entries_of (Client t.client) es)) ∷ []) follows ((asked, listed), tt)

  -- In every lawful journal each thread's events follow the program.
  pub threads_follow : (es : List Entry) → AllFollow p next es → FollowsProgram next (Listed next) t (events_in t (entries_of (Client t.client) es))
  threads_follow es follow = holds_along p next t (FollowsProgram next (Listed next) t) act_follows tt es follow

-- a wait answered Done has the lock at Write
held_if_done : (level : Option Level) → Some (monitor_reply level) ≡ Some Done → level ≡ Some Write
held_if_done (Some Write) answered = refl
held_if_done (Some Read) answered = absurd (cc answered)
held_if_done None answered = absurd (cc answered)

-- a client answers a wait with Done only where the thread holds the lock at Write
wait_held : (p : Settings) (t : ThreadId) (es : List Entry) (request : Request) (reply : Reply) (woken : Option ThreadId) → reply_of p t request es ≡ Some reply → WaitIsHeld (Act t request reply woken) (locks_of t es)
wait_held p t es (Wait l) Done woken answered = held_if_done (hold_level (hold_of t l es)) answered
wait_held p t es request reply woken answered = tt

-- one more event
pub waits_more : (t : ThreadId) (events : List Event) (e : Event) (locks : Locks) → WaitsAreHeld t events locks → WaitIsHeld e (locks_through t events locks) → WaitsAreHeld t (events ++ e ∷ []) locks
waits_more t [] e locks held last = (last, tt)
waits_more t (event ∷ events) e locks held last = (held.0, waits_more t events e (locks_after t event locks) held.1 last)

module _ (p : Settings) (next : ThreadId → List Event → Option Request) (t : ThreadId) where
  -- the next act of the thread waits only with the lock held
  pub act_waits : (e : Entry) (es : List Entry) (it : IsNextAct p t.client (next_after next es) e (entries_of (Client t.client) es)) → it.thread ≡ t → WaitsAreHeld t (events_in t (entries_of (Client t.client) es)) no_locks
      → WaitsAreHeld t (events_in t (entries_of (Client t.client) es) ++ Act it.thread it.request it.reply (woken_by it.request it.reply (entries_of (Client t.client) es)) ∷ []) no_locks
  act_waits e es it is held =
      let own : List Entry = entries_of (Client t.client) es in
      let act : Event = Act it.thread it.request it.reply (woken_by it.request it.reply own) in
      let by_entries : WaitIsHeld act (locks_of it.thread own) = wait_held p it.thread own it.request it.reply (woken_by it.request it.reply own) it.answered in
      waits_more t (events_in t own) act no_locks held (subst (WaitIsHeld act) (same_locks t own) (subst (λ u. WaitIsHeld act (locks_of u own)) is by_entries))

  -- In every lawful journal each thread waits only with the lock held at Write.
  pub threads_wait : (es : List Entry) → AllFollow p next es → WaitsAreHeld t (events_in t (entries_of (Client t.client) es)) no_locks
  threads_wait es follow = holds_along p next t (λ events. WaitsAreHeld t events no_locks) act_waits tt es follow

-- one more act of the thread
acts_more : (t : ThreadId) (events : List Event) (request : Request) (reply : Reply) (woken : Option ThreadId) (u : ThreadId) → u ≡ t → AreActsOf t events → AreActsOf t (events ++ Act u request reply woken ∷ [])
acts_more t [] request reply woken u same acts = (same, tt)
acts_more t (event ∷ events) request reply woken u same acts = (acts.0, acts_more t events request reply woken u same acts.1)

-- A thread's events by a client's entries are its acts.
pub own_acts : (t : ThreadId) (own : List Entry) → AreActsOf t (events_in t own)
own_acts t [] = tt
own_acts t (e ∷ own) = by e.event (own_acts t own)
  where
    by_thread : (u : ThreadId) (request : Request) (reply : Reply) (woken : Option ThreadId) (b : Bool) → is_thread t u ≡ b → AreActsOf t (events_in t own) → AreActsOf t (cond b (events_in t own ++ Act u request reply woken ∷ []) (events_in t own))
    by_thread u request reply woken true is acts = acts_more t (events_in t own) request reply woken u (same_thread t u is) acts
    by_thread u request reply woken false is acts = acts

    by : (event : Option Event) → AreActsOf t (events_in t own) → AreActsOf t (by_event (add_event t) event (events_in t own))
    by None acts = acts
    by (Some (Act u request reply woken)) acts = by_thread u request reply woken (is_thread t u) refl acts
    by (Some (Lost client)) acts = acts
