-- A client's lists have only its own threads, and so it names only these in its notifications; its records are of its own threads.
use Rattle.std.specs.List.{AllByRecursion, list_any}
use Rattle.std.proofs.Common.{Bool, List, None, Option, Some, [], ap, cond, drop, eqb, false, inl, inr, is_some, not, refl, subst, sym, true, ℕ, ◌++◌, ◌∙◌, ◌∷◌, ◌≡◌, ◌⊎◌}
use Rattle.dso_base.specs.Block.{Work, body_in, choice_of, insert_set, publish, put, put_shared, start, with_value, work_after, work_by, worked}
use Rattle.dso_base.specs.Following.{is_thread}
use Rattle.dso_base.specs.declared.journal.Entry.{Entry}
use Rattle.dso_base.specs.declared.journal.Input.{Input}
use Rattle.dso_base.specs.declared.journal.Input.TheVariants as input
use Rattle.dso_base.specs.declared.journal.Node.{Node}
use Rattle.dso_base.specs.declared.journal.Node.TheVariants.{Client, Server}
use Rattle.dso_base.specs.declared.lock.LockName.{LockName}
use Rattle.dso_base.specs.declared.lock.ThreadId.{ThreadId}
use Rattle.dso_base.specs.declared.message.Down.TheVariants as down
use Rattle.dso_base.specs.declared.message.Up.{Up}
use Rattle.dso_base.specs.declared.message.Up.TheVariants as up
use Rattle.dso_base.specs.declared.record.Choice.TheVariants.{All}
use Rattle.dso_base.specs.declared.record.Ending.{Ending}
use Rattle.dso_base.specs.declared.request.Event.{Event}
use Rattle.dso_base.specs.declared.request.Event.TheVariants.{Act}
use Rattle.dso_base.specs.declared.request.Reply.{Reply}
use Rattle.dso_base.specs.declared.request.Reply.TheVariants.{Done, Made}
use Rattle.dso_base.specs.declared.request.Request.{Request}
use Rattle.dso_base.specs.declared.request.Request.TheVariants.{New, Notify, NotifyAll, Print, Put, Timeout, Wait}
use Rattle.dso_base.specs.declared.value.Value.{Value}
use Rattle.dso_plain.specs.KeyTests.{is_lock}
use Rattle.dso_plain.proofs.keys.SameKeys.{number_self, same_number, same_thread, thread_self}
use Rattle.dso_law.specs.Channels.{takes_up, up_in_flight}
use Rattle.dso_law.specs.ClientStep.{commits, record_of}
use Rattle.dso_law.specs.ClientWaiters.{client_list, list_by_act, list_by_event, list_by_sent, list_by_taken, without, without_woken}
use Rattle.dso_law.specs.Entries.{by_event, by_taken_down, entries_of}
use Rattle.dso_law.specs.FitsUp.{FitsChoice}
use Rattle.dso_law.specs.Laws.{WorkAfter}
use Rattle.dso_law.specs.Replies.{first_of_list, woken_by}
use Rattle.dso_law.specs.Settings.{Settings, threads_of}
use Rattle.dso_law.specs.Threads.{ending_of, locks_of, open_block, privates_before, work_of}
use Rattle.dso_law.proofs.client.WorkByEntry.{work_goes_on}
use Rattle.dso_legal.specs.Agreement.{messages}
use Rattle.dso_legal.specs.Lawful.{AllFollow, ClientFollows, NodeFollows, next_after}
use Rattle.dso_legal.proofs.acts.ClientActs.{IsNoRecord, IsQuiet, NoRecords}
use Rattle.dso_legal.proofs.channels.AfterEntry.{OtherTurn, OwnTurn, ServerTurn, other_turn, own_turn, server_turn}
use Rattle.dso_legal.proofs.channels.InFlight.{said_of, said_status}
use Rattle.dso_legal.proofs.fitting.Acting.{Acts, quiet_or_acts}
use Rattle.dso_legal.proofs.fitting.Carried.{rest_of}
use Rattle.dso_legal.proofs.fitting.InHand.{each_filtered, each_of_two}
use Rattle.dso_legal.proofs.fitting.Messages.{kept_after}
use Rattle.dso_legal.proofs.leases.Holding.{in_part}
use Rattle.dso_legal.proofs.objects.OwnObjects.{IsOthers, work_alone, worked_more}

module _ (p : Settings) (c : ℕ) where
  -- the thread is one of the client's
  abbrev pub IsIts : ThreadId → Type 0
  IsIts t = list_any (is_thread t) (threads_of p c) ≡ true

  abbrev pub AreIts : List ThreadId → Type 0
  AreIts threads = AllByRecursion IsIts threads

  -- ---- the client's lists

  without_its : (l : LockName) (b : Bool) (woken : Option ThreadId) (list : List ThreadId) → AreIts list → AreIts (cond b (without_woken woken list) list)
  without_its l true None list h = h
  without_its l true (Some t) list h = each_filtered IsIts (λ u. not (is_thread t u)) list h
  without_its l false woken list h = h

  list_act : (l : LockName) (t : ThreadId) (request : Request) (reply : Reply) (woken : Option ThreadId) (list : List ThreadId) → IsIts t → AreIts list → AreIts (list_by_act l t request reply woken list)
  list_act l t (Wait k) Done woken list its h = by (is_lock l k)
    where
      by : (b : Bool) → AreIts (cond b (list ++ t ∷ []) list)
      by true = each_of_two IsIts list (t ∷ []) h (its, tt)
      by false = h
  list_act l t (Timeout k) Done woken list its h = by (is_lock l k)
    where
      by : (b : Bool) → AreIts (cond b (without t list) list)
      by true = each_filtered IsIts (λ u. not (is_thread t u)) list h
      by false = h
  list_act l t (Notify k) Done woken list its h = without_its l (is_lock l k) woken list h
  list_act l t (NotifyAll k) Done woken list its h = by (is_lock l k)
    where
      by : (b : Bool) → AreIts (cond b [] list)
      by true = tt
      by false = h
  list_act l t request reply woken list its h = h

  list_taken : (l : LockName) (i : Input) (list : List ThreadId) → AreIts list → AreIts (by_taken_down (list_by_taken l) i list)
  list_taken l (input.TookDown (down.Grant k level)) list h = by (is_lock l k)
    where
      by : (b : Bool) → AreIts (cond b [] list)
      by true = tt
      by false = h
  list_taken l (input.TookDown m) list h = h
  list_taken l i list h = h

  list_sent : (l : LockName) (m : Up) (list : List ThreadId) → Unit {0} → AreIts list → AreIts (list_by_sent l m list)
  list_sent l (up.Return k threads) list any h = by (is_lock l k)
    where
      by : (b : Bool) → AreIts (cond b [] list)
      by true = tt
      by false = h
  list_sent l m list any h = h

  any_said : (ms : List Up) → AllByRecursion (λ m. Unit {0}) ms
  any_said [] = tt
  any_said (m ∷ ms) = (tt, any_said ms)

  -- ---- notifications

  abbrev pub NotesAreIts : Work → Type 0
  NotesAreIts work = AllByRecursion (λ note. FitsChoice p c note.choice) work.notes

  put_notes : (o f : ℕ) (v : Value) (work : Work) → NotesAreIts work → NotesAreIts (put o f v work)
  put_notes o f v work h = by (is_some (body_in o work.privates))
    where
      shared : (b : Bool) → NotesAreIts (publish v (cond b (record work { news = with_value o f v work.news }) (record work { sets = insert_set (record { object = o; field = f; value = v }) work.sets })))
      shared true = h
      shared false = h

      by : (b : Bool) → NotesAreIts (cond b (record work { privates = with_value o f v work.privates }) (publish v (put_shared o f v work)))
      by true = h
      by false = shared (is_some (body_in o work.news))

  -- whom an act wakes is one of the client's
  abbrev WakesIts : Option ThreadId → Type 0
  WakesIts woken = FitsChoice p c (choice_of woken)

  act_notes : (request : Request) (reply : Reply) (woken : Option ThreadId) (work : Work) → WakesIts woken → NotesAreIts work → NotesAreIts (work_by p.shape request reply woken work)
  act_notes (New class n) (Made o) woken work its h = h
  act_notes (Put o f v) Done woken work its h = put_notes o f v work h
  act_notes (Print v) Done woken work its h = h
  act_notes (Notify l) Done woken work its h = each_of_two (λ note. FitsChoice p c note.choice) work.notes (record { lock = l; choice = choice_of woken } ∷ []) h (its, tt)
  act_notes (NotifyAll l) Done woken work its h = each_of_two (λ note. FitsChoice p c note.choice) work.notes (record { lock = l; choice = All } ∷ []) h (tt, tt)
  act_notes request reply woken work its h = h

  first_its : (list : List ThreadId) → AreIts list → WakesIts (first_of_list list)
  first_its [] h = tt
  first_its (t ∷ list) h = h.0

  -- So whom a notification of the client wakes.
  pub woken_its : (request : Request) (reply : Reply) (own_entries : List Entry) → ((l : LockName) → AreIts (client_list l own_entries)) → WakesIts (woken_by request reply own_entries)
  woken_its (Notify l) Done own_entries h = first_its (client_list l own_entries) (h l)
  woken_its request reply own_entries h = tt

  -- ---- records

  abbrev pub RecordIsIts : Up → Type 0
  RecordIsIts (up.Commit txn) = IsIts txn.thread × AllByRecursion (λ note. FitsChoice p c note.choice) txn.notes
  RecordIsIts m = Unit {0}

  none_its : (ms : List Up) → NoRecords ms → AllByRecursion RecordIsIts ms
  none_its [] none = tt
  none_its (m ∷ ms) none = (one m none.0, none_its ms none.1)
    where
      one : (m : Up) → IsNoRecord m → RecordIsIts m
      one (up.Commit txn) none = absurd none
      one m none = tt

  -- So of the client: its lists, what its threads have in hand, and its records in flight.
  pub record OwnThreads (own_entries : List Entry) (ups : List Up) : Type 0 where
    pub lists : (l : LockName) → AreIts (client_list l own_entries)
    pub notes : (t : ThreadId) → NotesAreIts (work_of p.shape t own_entries)
    pub up : AllByRecursion RecordIsIts ups

module _ (p : Settings) (next : ThreadId → List Event → Option Request) (c : ℕ) where
  module _ (e : Entry) (es : List Entry) (have : OwnThreads p c (entries_of (Client c) es) (messages (up_in_flight c es))) where
    abbrev mine : List Entry
    mine = entries_of (Client c) es

    lists_later : (event : Option Event) → e.event ≡ event → ((l : LockName) → AreIts p c (by_event (list_by_event l) event (by_taken_down (list_by_taken l) e.input (client_list l mine)))) → (l : LockName) → AreIts p c (client_list l (e ∷ mine))
    lists_later event is h l =
        let list : List ThreadId = by_event (list_by_event l) e.event (by_taken_down (list_by_taken l) e.input (client_list l mine)) in
        subst (AreIts p c) (sym (said_status (list_by_sent l) e.sent list))
        (kept_after (AreIts p c) (λ m. Unit {0}) (list_by_sent l) (list_sent p c l) (said_of e.sent) list (any_said p c (said_of e.sent))
        (subst (λ event. AreIts p c (by_event (list_by_event l) event (by_taken_down (list_by_taken l) e.input (client_list l mine)))) (sym is) (h l)))

    taken : (l : LockName) → AreIts p c (by_taken_down (list_by_taken l) e.input (client_list l mine))
    taken l = list_taken p c l e.input (client_list l mine) (have.lists l)

    module _ (acts : Acts p c (next_after next es) e mine) where
      abbrev t : ThreadId
      t = acts.act.thread

      abbrev woken : Option ThreadId
      woken = woken_by acts.act.request acts.act.reply mine

      abbrev event : Event
      event = Act t acts.act.request acts.act.reply woken

      its : IsIts p c t
      its = in_part t (λ u. eqb u.client c) p.threads (subst (λ d. eqb d c ≡ true) (sym acts.act.its) (number_self c)) acts.act.among

      later_notes : NotesAreIts p c (work_after p.shape event (work_of p.shape t mine))
      later_notes = act_notes p c acts.act.request acts.act.reply woken (work_of p.shape t mine) (woken_its p c acts.act.request acts.act.reply mine have.lists) (have.notes t)

      goes : WorkAfter p.shape t event e mine
      goes = work_goes_on p.shape t event e mine (record { event_is = acts.act.event; its = thread_self t })

      own_notes : (ending : Option Ending) → ending_of event (locks_of t mine) ≡ ending → NotesAreIts p c (work_of p.shape t (e ∷ mine))
      own_notes None is = subst (NotesAreIts p c) (sym (goes.goes_on is)) later_notes
      own_notes (Some ending) is = subst (NotesAreIts p c) (sym (goes.ends (λ none. some_ending (sym is ∙ none)))) tt
        where
          some_ending : Some ending ≡ None → ⊥
          some_ending none = cc none

      act_all_notes : (u : ThreadId) → NotesAreIts p c (work_of p.shape u (e ∷ mine))
      act_all_notes u = by (is_thread u t) refl
        where
          by : (b : Bool) → is_thread u t ≡ b → NotesAreIts p c (work_of p.shape u (e ∷ mine))
          by true is = subst (λ v. NotesAreIts p c (work_of p.shape v (e ∷ mine))) (same_thread u t is) (own_notes (ending_of event (locks_of t mine)) refl)
          by false is = subst (NotesAreIts p c) (sym (work_alone p.shape u e mine (subst (IsOthers u) (sym acts.act.event) is))) (have.notes u)

      record_its : (ending : Option Ending) → AllByRecursion (RecordIsIts p c) (record_of p t event ending mine)
      record_its None = tt
      record_its (Some ending) =
          let whole : NotesAreIts p c (worked p.shape (open_block t mine ++ event ∷ []) (start (privates_before p.shape t mine))) =
          subst (NotesAreIts p c) (sym (worked_more p.shape (open_block t mine) event (start (privates_before p.shape t mine)))) later_notes in
          ((its, whole), tt)

      act_said : AllByRecursion (RecordIsIts p c) (said_of e.sent)
      act_said = subst (AllByRecursion (RecordIsIts p c)) (sym acts.whole)
          (each_of_two (RecordIsIts p c) (commits p t event mine) acts.rest (record_its (ending_of event (locks_of t mine))) (none_its p c acts.rest acts.no_records))

    goes_on : IsQuiet e ⊎ Acts p c (next_after next es) e mine → OwnThreads p c (e ∷ mine) (messages (up_in_flight c es) ++ said_of e.sent)
    goes_on (inl quiet) = record {
      lists = lists_later None quiet.event taken;
      notes = λ u. subst (NotesAreIts p c) (sym (work_alone p.shape u e mine (subst (IsOthers u) (sym quiet.event) tt))) (have.notes u);
      up = each_of_two (RecordIsIts p c) (messages (up_in_flight c es)) (said_of e.sent) have.up (none_its p c (said_of e.sent) quiet.no_records);
    }
    goes_on (inr acts) = record {
      lists = lists_later (Some (event acts)) acts.act.event (λ l. list_act p c l (t acts) acts.act.request acts.act.reply (woken acts) (by_taken_down (list_by_taken l) e.input (client_list l mine)) (its acts) (taken l));
      notes = act_all_notes acts;
      up = each_of_two (RecordIsIts p c) (messages (up_in_flight c es)) (said_of e.sent) have.up (act_said acts);
    }

  -- After entries each of which follows those before it.
  pub own_threads : (es : List Entry) → AllFollow p next es → OwnThreads p c (entries_of (Client c) es) (messages (up_in_flight c es))
  own_threads [] follow = record { lists = λ l. tt; notes = λ t. tt; up = tt }
  own_threads (e ∷ es) follow = at e.node refl (own_threads es follow.0)
    where
      at : (node : Node) → e.node ≡ node → OwnThreads p c (entries_of (Client c) es) (messages (up_in_flight c es)) → OwnThreads p c (entries_of (Client c) (e ∷ es)) (messages (up_in_flight c (e ∷ es)))
      at Server node have =
          let turn : ServerTurn c e es = server_turn c e es node in
          let goes : OwnThreads p c (entries_of (Client c) es) (cond (takes_up c e.input) (drop 1 (messages (up_in_flight c es))) (messages (up_in_flight c es))) =
          record { lists = have.lists; notes = have.notes; up = rest_of (RecordIsIts p c) (takes_up c e.input) (messages (up_in_flight c es)) have.up } in
          subst (λ ups. OwnThreads p c (entries_of (Client c) (e ∷ es)) ups) (sym turn.up)
          (subst (λ entries. OwnThreads p c entries (cond (takes_up c e.input) (drop 1 (messages (up_in_flight c es))) (messages (up_in_flight c es)))) (sym turn.own) goes)
      at (Client d) node have = by (eqb c d) refl
        where
          own_entry : e.node ≡ Client c → OwnThreads p c (entries_of (Client c) (e ∷ es)) (messages (up_in_flight c (e ∷ es)))
          own_entry its =
              let turn : OwnTurn c e es = own_turn c e es its in
              let rule : ClientFollows p next c e es = subst (λ n. NodeFollows p next n e es) its follow.1.rule in
              subst (λ ups. OwnThreads p c (entries_of (Client c) (e ∷ es)) ups) (sym turn.up)
              (subst (λ entries. OwnThreads p c entries (messages (up_in_flight c es) ++ said_of e.sent)) (sym turn.own)
              (goes_on e es have (quiet_or_acts p c (next_after next es) (next_after next (e ∷ es)) e (entries_of (Client c) es) rule.step)))

          by : (b : Bool) → eqb c d ≡ b → OwnThreads p c (entries_of (Client c) (e ∷ es)) (messages (up_in_flight c (e ∷ es)))
          by true same = own_entry (node ∙ ap Client (sym (same_number c d same)))
          by false other =
              let turn : OtherTurn c e es = other_turn c d e es node other in
              subst (λ letters. OwnThreads p c (entries_of (Client c) (e ∷ es)) (messages letters)) (sym turn.up)
              (subst (λ entries. OwnThreads p c entries (messages (up_in_flight c es))) (sym turn.own) have)
