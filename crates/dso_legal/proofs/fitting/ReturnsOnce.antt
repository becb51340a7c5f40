-- A client's lists have its own threads, each once; and so has each return in flight, which brings a list as it stood.
use Rattle.std.specs.List.{list_any, AllByRecursion}
use Rattle.std.proofs.Common.{Bool, List, None, Option, Some, [], ap, cond, drop, eqb, false, filter, inl, inr, map, not, refl, subst, sym, true, ℕ, ◌++◌, ◌||◌, ◌∙◌, ◌∷◌, ◌≡◌, ◌⊎◌}
use Rattle.dso_base.specs.Following.{is_thread}
use Rattle.dso_base.specs.declared.journal.Entry.{Entry}
use Rattle.dso_base.specs.declared.journal.Input.{Input}
use Rattle.dso_base.specs.declared.journal.Input.TheVariants as input
use Rattle.dso_base.specs.declared.journal.Node.{Node}
use Rattle.dso_base.specs.declared.journal.Node.TheVariants.{Client, Server}
use Rattle.dso_base.specs.declared.journal.Sent.TheVariants.{ToServer}
use Rattle.dso_base.specs.declared.lock.LockName.{LockName}
use Rattle.dso_base.specs.declared.lock.ThreadId.{ThreadId}
use Rattle.dso_base.specs.declared.message.Down.TheVariants as down
use Rattle.dso_base.specs.declared.message.Up.{Up}
use Rattle.dso_base.specs.declared.message.Up.TheVariants as up
use Rattle.dso_base.specs.declared.record.Ending.{Ending}
use Rattle.dso_base.specs.declared.request.Event.{Event}
use Rattle.dso_base.specs.declared.request.Event.TheVariants.{Act}
use Rattle.dso_base.specs.declared.request.Reply.{Reply}
use Rattle.dso_base.specs.declared.request.Reply.TheVariants.{Done}
use Rattle.dso_base.specs.declared.request.Request.{Request}
use Rattle.dso_base.specs.declared.request.Request.TheVariants.{Wait, Timeout, Notify, NotifyAll}
use Rattle.dso_plain.specs.KeyTests.{is_lock}
use Rattle.dso_plain.proofs.keys.SameKeys.{number_self, same_number}
use Rattle.dso_law.specs.Channels.{takes_up, up_in_flight}
use Rattle.dso_law.specs.ClientStep.{ActsOn, ClientStepOn, DoesOrAsks, asks_again, commits, record_of, returns}
use Rattle.dso_law.specs.ClientWaiters.{client_list, list_by_act, list_by_event, list_by_sent, list_by_taken, without, without_woken}
use Rattle.dso_law.specs.Closing.{due}
use Rattle.dso_law.specs.Entries.{by_event, by_taken_down, entries_of, events_in, unsent}
use Rattle.dso_law.specs.FitsUp.{AreDistinct}
use Rattle.dso_law.specs.Replies.{woken_by}
use Rattle.dso_law.specs.RequestNeeds.{Need, unmet}
use Rattle.dso_law.specs.Settings.{Settings}
use Rattle.dso_law.specs.Threads.{ending_of, locks_of}
use Rattle.dso_legal.specs.Agreement.{messages}
use Rattle.dso_legal.specs.Lawful.{AllFollow, ClientFollows, NodeFollows, next_after}
use Rattle.dso_legal.specs.SoundProgram.{IsOfWaiter, AsksSoundly, KeepsTo}
use Rattle.dso_legal.proofs.blocks.OwnActs.{IsNextAct, next_act}
use Rattle.dso_legal.proofs.blocks.SameLocks.{same_locks}
use Rattle.dso_legal.proofs.blocks.WaitsApart.{does_wait}
use Rattle.dso_legal.proofs.channels.AfterEntry.{OtherTurn, OwnTurn, ServerTurn, other_turn, own_turn, server_turn}
use Rattle.dso_legal.proofs.channels.InFlight.{said_all, said_of, said_status}
use Rattle.dso_legal.proofs.fitting.Carried.{rest_of}
use Rattle.dso_legal.proofs.fitting.InHand.{each_filtered, each_of_two, each_so}
use Rattle.dso_legal.proofs.fitting.Messages.{kept_after}
use Rattle.dso_legal.proofs.fitting.ThreadsOwn.{AreIts, IsIts}
use Rattle.dso_legal.proofs.fitting.Untold.{keeps_to}
use Rattle.dso_legal.proofs.leases.Holding.{in_part}
use Rattle.dso_legal.proofs.waiting.ClientRuleKeeps.{ask_asks, again_asks}
use Rattle.dso_legal.proofs.waiting.EntryParts.{IsAsking}
use Rattle.dso_legal.proofs.waiting.ListMoves.{fails}
use Rattle.dso_legal.proofs.waiting.ServerWaiters.{once_both}
use Rattle.dso_legal.proofs.waiting.Waiters.{waiters_stand}

-- ---- what a client's entry gives back

module _ (p : Settings) (c : ℕ) (before after_it : ThreadId → Option Request) (e : Entry) (own : List Entry) where
  -- a return brings the list as it stands behind the event
  abbrev GivesList : Up → Type 0
  GivesList (up.Return k threads) = threads ≡ client_list k (unsent e ∷ own)
  GivesList m = Unit {0}

  asking_gives : (ms : List Up) → AllByRecursion IsAsking ms → AllByRecursion GivesList ms
  asking_gives = each_so IsAsking GivesList one
    where
      one : (m : Up) → IsAsking m → GivesList m
      one (up.Return k threads) h = absurd h
      one m h = tt

  returns_give : (locks : List LockName) → AllByRecursion GivesList (map (λ l. up.Return l (client_list l (unsent e ∷ own))) locks)
  returns_give [] = tt
  returns_give (l ∷ locks) = (refl, returns_give locks)

  record_gives : (t : ThreadId) (event : Event) (ending : Option Ending) → AllByRecursion GivesList (record_of p t event ending own)
  record_gives t event None = tt
  record_gives t event (Some ending) = (tt, tt)

  -- what is said, in its parts
  parts_give : (front rest : List Up) → AllByRecursion GivesList front → AllByRecursion GivesList rest → e.sent ≡ map ToServer (front ++ returns p c after_it (unsent e ∷ own) ++ rest) → AllByRecursion GivesList (said_of e.sent)
  parts_give front rest h k sends = subst (AllByRecursion GivesList) (sym (ap said_of sends ∙ said_all (front ++ returns p c after_it (unsent e ∷ own) ++ rest)))
      (each_of_two GivesList (front ++ returns p c after_it (unsent e ∷ own)) rest
      (each_of_two GivesList front (returns p c after_it (unsent e ∷ own)) h (returns_give (due p c after_it (unsent e ∷ own)))) k)

  act_gives : (t : ThreadId) (request : Request) (need : Option Need) → DoesOrAsks p c t request need before after_it e own → AllByRecursion GivesList (said_of e.sent)
  act_gives t request None does =
      let event : Event = Act t request does.reply (woken_by request does.reply own) in
      parts_give (commits p t event own) (asks_again p c before after_it (after_it t) (unsent e ∷ own) own)
      (record_gives t event (ending_of event (locks_of t own))) (asking_gives _ (again_asks p c before after_it e own (after_it t))) does.sends
  act_gives t request (Some need) asks = parts_give [] (asks.message ∷ []) tt (asking_gives (asks.message ∷ []) (ask_asks need own asks.message asks.asked, tt)) asks.sends

  acts_give : (t : ThreadId) (request : Option Request) → ActsOn p c t request before after_it e own → AllByRecursion GivesList (said_of e.sent)
  acts_give t None acts = absurd acts
  acts_give t (Some request) acts = act_gives t request (unmet p c before t request own) acts

  said_gives : (i : Input) → ClientStepOn p c i before after_it e own → AllByRecursion GivesList (said_of e.sent)
  said_gives (input.Act index) step = acts_give (record { client = c; index = index }) (before (record { client = c; index = index })) step.acts
  said_gives (input.TookDown m) step = subst (AllByRecursion GivesList) (sym (ap said_of step.sends ∙ said_all (returns p c after_it (unsent e ∷ own)))) (returns_give (due p c after_it (unsent e ∷ own)))
  said_gives (input.Flush o) step = subst (λ out. AllByRecursion GivesList (said_of out)) (sym step.sends) (tt, tt)
  said_gives (input.Rejoin d) step = subst (λ out. AllByRecursion GivesList (said_of out)) (sym step.sends) tt
  said_gives other step = absurd step

-- ---- lists

-- who is in no list is in no part of it
absent_filtered : (t : ThreadId) (keep : ThreadId → Bool) (ts : List ThreadId) → list_any (is_thread t) ts ≡ false → list_any (is_thread t) (filter keep ts) ≡ false
absent_filtered t keep [] none = refl
absent_filtered t keep (u ∷ ts) none = by (is_thread t u) refl none (absent_filtered t keep ts)
  where
    kept : (b : Bool) → is_thread t u ≡ false → list_any (is_thread t) (filter keep ts) ≡ false → list_any (is_thread t) (cond b (u ∷ filter keep ts) (filter keep ts)) ≡ false
    kept true other rest = ap (λ b. b || list_any (is_thread t) (filter keep ts)) other ∙ rest
    kept false other rest = rest

    by : (b : Bool) → is_thread t u ≡ b → (b || list_any (is_thread t) ts) ≡ false → (list_any (is_thread t) ts ≡ false → list_any (is_thread t) (filter keep ts) ≡ false) → list_any (is_thread t) (cond (keep u) (u ∷ filter keep ts) (filter keep ts)) ≡ false
    by true is none later = absurd (cc none)
    by false is none later = kept (keep u) is (later none)

once_filtered : (keep : ThreadId → Bool) (ts : List ThreadId) → AreDistinct ts → AreDistinct (filter keep ts)
once_filtered keep [] once = tt
once_filtered keep (t ∷ ts) once = by (keep t) (once_filtered keep ts once.1)
  where
    by : (b : Bool) → AreDistinct (filter keep ts) → AreDistinct (cond b (t ∷ filter keep ts) (filter keep ts))
    by true rest = (absent_filtered t keep ts once.0, rest)
    by false rest = rest

module _ (p : Settings) (c : ℕ) where
  -- the client's own threads, each once
  pub record AreOwnOnce (ts : List ThreadId) : Type 0 where
    pub its : AreIts p c ts
    pub once : AreDistinct ts

  none_once : AreOwnOnce []
  none_once = record { its = tt; once = tt }

  part_once : (keep : ThreadId → Bool) (ts : List ThreadId) → AreOwnOnce ts → AreOwnOnce (filter keep ts)
  part_once keep ts h = record { its = each_filtered (IsIts p c) keep ts h.its; once = once_filtered keep ts h.once }

  woken_once : (woken : Option ThreadId) (ts : List ThreadId) → AreOwnOnce ts → AreOwnOnce (without_woken woken ts)
  woken_once None ts h = h
  woken_once (Some t) ts h = part_once (λ u. not (is_thread t u)) ts h

  either_once : (b : Bool) (xs ys : List ThreadId) → AreOwnOnce xs → AreOwnOnce ys → AreOwnOnce (cond b xs ys)
  either_once true xs ys h k = h
  either_once false xs ys h k = k

  -- an act, of a thread that isn't in the list where it waits
  list_act : (l : LockName) (t : ThreadId) (request : Request) (reply : Reply) (woken : Option ThreadId) (ts : List ThreadId) → IsIts p c t
      → ((k : LockName) → request ≡ Wait k → list_any (is_thread t) ts ≡ false) → AreOwnOnce ts → AreOwnOnce (list_by_act l t request reply woken ts)
  list_act l t (Wait k) Done woken ts its absent h = either_once (is_lock l k) (ts ++ t ∷ []) ts (record {
    its = each_of_two (IsIts p c) ts (t ∷ []) h.its (its, tt);
    once = once_both ts (t ∷ []) h.once (refl, tt) (absent k refl, tt);
  }) h
  list_act l t (Timeout k) Done woken ts its absent h = either_once (is_lock l k) (without t ts) ts (part_once (λ u. not (is_thread t u)) ts h) h
  list_act l t (Notify k) Done woken ts its absent h = either_once (is_lock l k) (without_woken woken ts) ts (woken_once woken ts h) h
  list_act l t (NotifyAll k) Done woken ts its absent h = either_once (is_lock l k) [] ts none_once h
  list_act l t request reply woken ts its absent h = h

  list_taken : (l : LockName) (i : Input) (ts : List ThreadId) → AreOwnOnce ts → AreOwnOnce (by_taken_down (list_by_taken l) i ts)
  list_taken l (input.TookDown (down.Grant k level)) ts h = either_once (is_lock l k) [] ts none_once h
  list_taken l (input.TookDown m) ts h = h
  list_taken l i ts h = h

  list_sent : (l : LockName) (m : Up) (ts : List ThreadId) → Unit {0} → AreOwnOnce ts → AreOwnOnce (list_by_sent l m ts)
  list_sent l (up.Return k threads) ts any h = either_once (is_lock l k) [] ts none_once h
  list_sent l m ts any h = h

  any_said : (ms : List Up) → AllByRecursion (λ m. Unit {0}) ms
  any_said [] = tt
  any_said (m ∷ ms) = (tt, any_said ms)

  -- a return brings such threads
  abbrev pub ReturnsOnce : Up → Type 0
  ReturnsOnce (up.Return k threads) = AreOwnOnce threads
  ReturnsOnce m = Unit {0}

  -- So of the client's lists and of its returns in flight.
  pub record ListsOnce (own : List Entry) (ups : List Up) : Type 0 where
    pub lists : (l : LockName) → AreOwnOnce (client_list l own)
    pub up : AllByRecursion ReturnsOnce ups

module _ (p : Settings) (next : ThreadId → List Event → Option Request) (sound : AsksSoundly p.shape next) (c : ℕ) where
  module _ (e : Entry) (es : List Entry) (follow : AllFollow p next es) (have : ListsOnce p c (entries_of (Client c) es) (messages (up_in_flight c es))) (rule : ClientFollows p next c e es) where
    abbrev mine : List Entry
    mine = entries_of (Client c) es

    -- who waits is in no list
    absent : (act : IsNextAct p c (next_after next es) e mine) (l k : LockName) → act.request ≡ Wait k → list_any (is_thread act.thread) (client_list l mine) ≡ false
    absent act l k is = fails (list_any (is_thread act.thread) (client_list l mine)) (λ there. subst IsOfWaiter is (waiting there))
      where
        t : ThreadId
        t = act.thread

        keeps : KeepsTo p.shape t (events_in t (entries_of (Client t.client) es)) act.request
        keeps = keeps_to p next sound es follow t act.request act.asked

        own_locks : (n : ℕ) → t.client ≡ n → locks_of t (entries_of (Client n) es) ≡ locks_of t (entries_of (Client t.client) es)
        own_locks n same = ap (λ m. locks_of t (entries_of (Client m) es)) (sym same)

        waiting : list_any (is_thread t) (client_list l mine) ≡ true → IsOfWaiter act.request
        waiting there = keeps.waits (λ none. does_wait l (locks_of t mine).waiting (((waiters_stand p next sound es follow).client c l).listed t there)
            (ap (λ (x : _). x.waiting) (own_locks c act.its ∙ same_locks t (entries_of (Client t.client) es)) ∙ none))

    -- the lists behind the event
    behind : (l : LockName) → AreOwnOnce p c (client_list l (unsent e ∷ mine))
    behind l = by (next_act p c (next_after next es) (next_after next (e ∷ es)) e mine rule.step)
      where
        ts : List ThreadId
        ts = by_taken_down (list_by_taken l) e.input (client_list l mine)

        taken : AreOwnOnce p c (by_taken_down (list_by_taken l) e.input (client_list l mine))
        taken = list_taken p c l e.input (client_list l mine) (have.lists l)

        by : (e.event ≡ None) ⊎ IsNextAct p c (next_after next es) e mine → AreOwnOnce p c (client_list l (unsent e ∷ mine))
        by (inl none) = subst (λ event. AreOwnOnce p c (by_event (list_by_event l) event (by_taken_down (list_by_taken l) e.input (client_list l mine)))) (sym none) taken
        by (inr act) = subst (λ event. AreOwnOnce p c (by_event (list_by_event l) event (by_taken_down (list_by_taken l) e.input (client_list l mine)))) (sym act.event)
            (list_act p c l act.thread act.request act.reply (woken_by act.request act.reply mine) (by_taken_down (list_by_taken l) e.input (client_list l mine))
            (in_part act.thread (λ u. eqb u.client c) p.threads (subst (λ d. eqb d c ≡ true) (sym act.its) (number_self c)) act.among)
            (λ k is. absent_taken e.input (absent act l k is)) taken)
          where
            absent_taken : (i : Input) → list_any (is_thread act.thread) (client_list l mine) ≡ false → list_any (is_thread act.thread) (by_taken_down (list_by_taken l) i (client_list l mine)) ≡ false
            absent_taken (input.TookDown (down.Grant k level)) none = either (is_lock l k)
              where
                either : (b : Bool) → list_any (is_thread act.thread) (cond b [] (client_list l mine)) ≡ false
                either true = refl
                either false = none
            absent_taken (input.TookDown m) none = none
            absent_taken i none = none

    said : AllByRecursion (ReturnsOnce p c) (said_of e.sent)
    said = each_so (GivesList p c (next_after next es) (next_after next (e ∷ es)) e mine) (ReturnsOnce p c) one (said_of e.sent) (said_gives p c (next_after next es) (next_after next (e ∷ es)) e mine e.input rule.step)
      where
        one : (m : Up) → GivesList p c (next_after next es) (next_after next (e ∷ es)) e mine m → ReturnsOnce p c m
        one (up.Return k threads) is = subst (AreOwnOnce p c) (sym is) (behind k)
        one m is = tt

    goes_on : ListsOnce p c (e ∷ mine) (messages (up_in_flight c es) ++ said_of e.sent)
    goes_on = record {
      lists = λ l. subst (AreOwnOnce p c) (sym (said_status (list_by_sent l) e.sent (client_list l (unsent e ∷ mine))))
          (kept_after (AreOwnOnce p c) (λ m. Unit {0}) (list_by_sent l) (list_sent p c l) (said_of e.sent) (client_list l (unsent e ∷ mine)) (any_said p c (said_of e.sent)) (behind l));
      up = each_of_two (ReturnsOnce p c) (messages (up_in_flight c es)) (said_of e.sent) have.up said;
    }

  -- After entries each of which follows those before it, of a lost client too.
  pub lists_once : (es : List Entry) → AllFollow p next es → ListsOnce p c (entries_of (Client c) es) (messages (up_in_flight c es))
  lists_once [] follow = record { lists = λ l. none_once p c; up = tt }
  lists_once (e ∷ es) follow = at e.node refl (lists_once es follow.0)
    where
      at : (node : Node) → e.node ≡ node → ListsOnce p c (entries_of (Client c) es) (messages (up_in_flight c es)) → ListsOnce p c (entries_of (Client c) (e ∷ es)) (messages (up_in_flight c (e ∷ es)))
      at Server node have =
          let turn : ServerTurn c e es = server_turn c e es node in
          let goes : ListsOnce p c (entries_of (Client c) es) (cond (takes_up c e.input) (drop 1 (messages (up_in_flight c es))) (messages (up_in_flight c es))) =
          record { lists = have.lists; up = rest_of (ReturnsOnce p c) (takes_up c e.input) (messages (up_in_flight c es)) have.up } in
          subst (λ ups. ListsOnce p c (entries_of (Client c) (e ∷ es)) ups) (sym turn.up)
          (subst (λ entries. ListsOnce p c entries (cond (takes_up c e.input) (drop 1 (messages (up_in_flight c es))) (messages (up_in_flight c es)))) (sym turn.own) goes)
      at (Client d) node have = by (eqb c d) refl
        where
          own_entry : e.node ≡ Client c → ListsOnce p c (entries_of (Client c) (e ∷ es)) (messages (up_in_flight c (e ∷ es)))
          own_entry its =
              let turn : OwnTurn c e es = own_turn c e es its in
              let rule : ClientFollows p next c e es = subst (λ n. NodeFollows p next n e es) its follow.1.rule in
              subst (λ ups. ListsOnce p c (entries_of (Client c) (e ∷ es)) ups) (sym turn.up)
              (subst (λ entries. ListsOnce p c entries (messages (up_in_flight c es) ++ said_of e.sent)) (sym turn.own) (goes_on e es follow.0 have rule))

          by : (b : Bool) → eqb c d ≡ b → ListsOnce p c (entries_of (Client c) (e ∷ es)) (messages (up_in_flight c (e ∷ es)))
          by true same = own_entry (node ∙ ap Client (sym (same_number c d same)))
          by false other =
              let turn : OtherTurn c e es = other_turn c d e es node other in
              subst (λ ups. ListsOnce p c (entries_of (Client c) (e ∷ es)) (messages ups)) (sym turn.up)
              (subst (λ entries. ListsOnce p c entries (messages (up_in_flight c es))) (sym turn.own) have)
