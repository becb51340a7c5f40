-- What a thread's records make of a status, at its client as its events go and at the server as it takes them: both ends agree, so the
-- record that comes is one that may come there.
use Rattle.std.specs.List.{list_any}
use Rattle.std.proofs.Common.{Bool, List, None, Option, Some, [], ap, cond, eqb, false, inl, inr, refl, subst, sym, true, ℕ, ◌++◌, ◌∙◌, ◌∷◌, ◌≡◌, ◌⊎◌}
use Rattle.dso_base.specs.Following.{is_thread}
use Rattle.dso_base.specs.declared.journal.Entry.{Entry}
use Rattle.dso_base.specs.declared.journal.Input.{Input}
use Rattle.dso_base.specs.declared.journal.Input.TheVariants as input
use Rattle.dso_base.specs.declared.journal.Node.TheVariants.{Client, Server}
use Rattle.dso_base.specs.declared.lock.ThreadId.{ThreadId}
use Rattle.dso_base.specs.declared.message.Down.{Down}
use Rattle.dso_base.specs.declared.message.Up.{Up}
use Rattle.dso_base.specs.declared.message.Up.TheVariants as up
use Rattle.dso_base.specs.declared.record.Ending.{Ending}
use Rattle.dso_base.specs.declared.record.Txn.{Txn}
use Rattle.dso_base.specs.declared.request.Event.{Event}
use Rattle.dso_base.specs.declared.request.Event.TheVariants.{Act}
use Rattle.dso_base.specs.declared.request.Request.{Request}
use Rattle.dso_plain.proofs.keys.SameKeys.{number_self, same_thread, thread_self}
use Rattle.dso_law.specs.Channels.{IsFirst, up_in_flight}
use Rattle.dso_law.specs.ClientStep.{commits, record_of}
use Rattle.dso_law.specs.Entries.{add_event, by_event, by_sent_up, by_taken_down, by_taken_up, entries_of, events_in, if_to}
use Rattle.dso_law.specs.FitsUp.{FitsUp}
use Rattle.dso_law.specs.Replies.{woken_by}
use Rattle.dso_law.specs.ServerReadings.{counted, is_lost, is_of_lost}
use Rattle.dso_law.specs.ServerStep.{HeardOrLost, ServerStepOn}
use Rattle.dso_law.specs.Settings.{Settings, threads_of}
use Rattle.dso_law.specs.Threads.{ending_of, locks_of}
use Rattle.dso_legal.specs.Agreement.{EachMay, after}
use Rattle.dso_legal.specs.Lawful.{AllFollow, ClientFollows, ServerFollows, next_after}
use Rattle.dso_legal.specs.Numbered.{Always, unchanged}
use Rattle.dso_legal.proofs.acts.ClientActs.{IsNoRecord, IsQuiet, NoRecords}
use Rattle.dso_legal.proofs.blocks.Histories.{client_of_thread}
use Rattle.dso_legal.proofs.blocks.OwnActs.{IsNextAct}
use Rattle.dso_legal.proofs.channels.Agreement.{Commutes, after_append, deaf_down, may_append}
use Rattle.dso_legal.proofs.channels.InFlight.{said_of, said_status, told_status, told_to}
use Rattle.dso_legal.proofs.fitting.Acting.{Acts, quiet_or_acts}
use Rattle.dso_legal.proofs.leases.LeaseSteps.{no_both}
use Rattle.dso_legal.proofs.leases.ServerLeases.{same_either}
use Rattle.dso_legal.proofs.records.BothEnds.{ClientEnd, Ends, ServerEnd, ends_agree, first_may_up}
use Rattle.dso_legal.proofs.records.Numbered.{after_unchanged, each_always}

-- a status after a block that ended so, or that goes on
abbrev pub moved : {S : Type 0} → (Ending → S → S) → Option Ending → S → S
moved step None s = s
moved step (Some ending) s = step ending s

-- The status of thread t: which endings may come in it, what they make of it, what it is at first and after events of the thread.
module _ {S : Type 0} (p : Settings) (next : ThreadId → List Event → Option Request) (t : ThreadId) (MayEnd : Ending → S → Type 0) (step : Ending → S → S) (first : S) (of : List Event → S) where
  abbrev pub MayCome : Up → S → Type 0
  MayCome (up.Commit txn) s = is_thread t txn.thread ≡ true → MayEnd txn.ending s
  MayCome m s = Unit {0}

  abbrev pub stepped : Up → S → S
  stepped (up.Commit txn) s = cond (is_thread t txn.thread) (step txn.ending s) s
  stepped m s = s

  -- as the server takes the thread's records
  abbrev pub taken_status : List Entry → S
  taken_status [] = first
  taken_status (e ∷ es) = by_taken_up (λ c m s. stepped m s) e.input (taken_status es)

  -- as the thread's events tell
  abbrev pub own_status : List Entry → S
  own_status own = of (events_in t own)

  -- What is asked of it: it begins as at first; an act of the thread steps it by the block that the act ends, which may end in it.
  pub record Tells : Type 0 where
    pub begins : first ≡ of []
    pub moves : (e : Entry) (es : List Entry) → AllFollow p next es → (act : IsNextAct p t.client (next_after next es) e (entries_of (Client t.client) es)) → is_thread t act.thread ≡ true
        → of (events_in t (entries_of (Client t.client) es) ++ Act act.thread act.request act.reply (woken_by act.request act.reply (entries_of (Client t.client) es)) ∷ [])
        ≡ moved step (ending_of (Act act.thread act.request act.reply (woken_by act.request act.reply (entries_of (Client t.client) es))) (locks_of act.thread (entries_of (Client t.client) es)))
        (of (events_in t (entries_of (Client t.client) es)))
    pub may : (e : Entry) (es : List Entry) → AllFollow p next es → (act : IsNextAct p t.client (next_after next es) e (entries_of (Client t.client) es)) → is_thread t act.thread ≡ true → (ending : Ending)
        → ending_of (Act act.thread act.request act.reply (woken_by act.request act.reply (entries_of (Client t.client) es))) (locks_of act.thread (entries_of (Client t.client) es)) ≡ Some ending
        → MayEnd ending (of (events_in t (entries_of (Client t.client) es)))

  status_commutes : Commutes MayCome stepped (Always {M = Down}) unchanged
  status_commutes m d s up down = deaf_down MayCome stepped Always unchanged m d s (λ s. (tt, refl)) up

  -- messages that are no records leave it
  none_come : (ms : List Up) (s : S) → NoRecords ms → EachMay MayCome stepped ms s
  none_come [] s none = tt
  none_come (m ∷ ms) s none = (one m none.0, none_come ms (stepped m s) none.1)
    where
      one : (m : Up) → IsNoRecord m → MayCome m s
      one (up.Commit txn) none = absurd none
      one m none = tt

  still_there : (ms : List Up) (s : S) → NoRecords ms → after stepped ms s ≡ s
  still_there [] s none = refl
  still_there (m ∷ ms) s none = still_there ms (stepped m s) none.1 ∙ one m none.0
    where
      one : (m : Up) → IsNoRecord m → stepped m s ≡ s
      one (up.Commit txn) none = absurd none
      one m none = refl

  taken_same : (i : Input) (s : S) → by_taken_down unchanged i s ≡ s
  taken_same (input.TookDown m) s = refl
  taken_same i s = refl

  module _ (tells : Tells) where
    -- ---- at the client

    module _ (e : Entry) (es : List Entry) (follow : AllFollow p next es) where
      abbrev mine : List Entry
      mine = entries_of (Client t.client) es

      abbrev s : S
      s = own_status mine

      module _ (acts : Acts p t.client (next_after next es) e mine) where
        abbrev u : ThreadId
        u = acts.act.thread

        abbrev event : Event
        event = Act u acts.act.request acts.act.reply (woken_by acts.act.request acts.act.reply mine)

        abbrev ends : Option Ending
        ends = ending_of event (locks_of u mine)

        record_may : (ending : Option Ending) → ends ≡ ending → EachMay MayCome stepped (record_of p u event ending mine) s
        record_may None is = tt
        record_may (Some ending) is = ((λ same. tells.may e es follow acts.act same ending is), tt)

        record_moves : (ending : Option Ending) → after stepped (record_of p u event ending mine) s ≡ cond (is_thread t u) (moved step ending s) s
        record_moves None = sym (same_either (is_thread t u) s)
        record_moves (Some ending) = refl

        event_moves : cond (is_thread t u) (moved step ends s) s ≡ own_status (e ∷ mine)
        event_moves = by (is_thread t u) refl ∙ sym (ap (λ event. of (by_event (add_event t) event (events_in t mine))) acts.act.event)
          where
            by : (b : Bool) → is_thread t u ≡ b → cond b (moved step ends s) s ≡ of (cond b (events_in t mine ++ event ∷ []) (events_in t mine))
            by true same = sym (tells.moves e es follow acts.act same)
            by false other = refl

        said_moves : after stepped (said_of e.sent) s ≡ own_status (e ∷ mine)
        said_moves =
            let front : List Up = commits p u event mine in
            ap (λ ms. after stepped ms s) acts.whole ∙ after_append stepped front acts.rest s
            ∙ still_there acts.rest (after stepped front s) acts.no_records ∙ record_moves ends ∙ event_moves

        said_may : EachMay MayCome stepped (said_of e.sent) s
        said_may =
            let front : List Up = commits p u event mine in
            subst (λ ms. EachMay MayCome stepped ms s) (sym acts.whole)
            (may_append MayCome stepped front acts.rest s (record_may ends refl) (none_come acts.rest (after stepped front s) acts.no_records))

      record Said : Type 0 where
        may : EachMay MayCome stepped (said_of e.sent) s
        moves : after stepped (said_of e.sent) s ≡ own_status (e ∷ mine)

      says : IsQuiet e ⊎ Acts p t.client (next_after next es) e mine → Said
      says (inl quiet) = record {
        may = none_come (said_of e.sent) s quiet.no_records;
        moves = still_there (said_of e.sent) s quiet.no_records ∙ ap (λ event. of (by_event (add_event t) event (events_in t mine))) (sym quiet.event);
      }
      says (inr acts) = record { may = said_may acts; moves = said_moves acts }

      client_end : ClientFollows p next t.client e es → ClientEnd p next t.client MayCome stepped Always unchanged own_status taken_status e mine
      client_end rule =
          let said : Said = says (quiet_or_acts p t.client (next_after next es) (next_after next (e ∷ es)) e mine rule.step) in
          let same : by_taken_down unchanged e.input s ≡ s = taken_same e.input s in
          record {
            comes = subst (EachMay MayCome stepped (said_of e.sent)) (sym same) said.may;
            reads = sym (ap (by_sent_up stepped e.sent) same ∙ said_status stepped e.sent s ∙ said.moves);
          }

      -- ---- at the server

      -- a record of another client's thread
      others_record : (d : ℕ) (txn : Txn) → eqb t.client d ≡ false → list_any (is_thread txn.thread) (threads_of p d) ≡ true → is_thread t txn.thread ≡ false
      others_record d txn other its = by (is_thread t txn.thread) refl
        where
          by : (b : Bool) → is_thread t txn.thread ≡ b → b ≡ false
          by true same = no_both (eqb t.client t.client) (number_self t.client)
              (subst (λ n. eqb t.client n ≡ false) (sym (client_of_thread p d txn.thread its) ∙ ap (λ (v : ThreadId). v.client) (same_thread t txn.thread same)) other)
          by false apart = refl

      heard_same : (i : Input) (s : S) → ServerStepOn p i e (entries_of Server es) → is_of_lost i (entries_of Server es) ≡ false → by_taken_up (λ c m s. stepped m s) i s ≡ by_taken_up (if_to t.client stepped) i s
      heard_same (input.TookUp d m) s rule counts = by m (eqb t.client d) refl (subst (λ b. HeardOrLost p d m b e (counted (entries_of Server es))) counts rule.heard).fits
        where
          by : (m : Up) (b : Bool) → eqb t.client d ≡ b → FitsUp p d m (counted (entries_of Server es)) → stepped m s ≡ cond b (stepped m s) s
          by (up.Commit txn) true same fits = refl
          by (up.Commit txn) false other fits = ap (λ b. cond b (step txn.ending s) s) (others_record d txn other fits.thread)
          by up.IdAsk b same fits = sym (same_either b s)
          by (up.Fault o) b same fits = sym (same_either b s)
          by (up.Flushed o) b same fits = sym (same_either b s)
          by (up.Request l level) b same fits = sym (same_either b s)
          by (up.Return l threads) b same fits = sym (same_either b s)
      heard_same (input.Lose d) s rule counts = refl
      heard_same (input.Break d) s rule counts = refl
      heard_same (input.Rejoin d) s rule counts = refl
      heard_same other s rule counts = absurd rule

      server_end : ServerFollows p next e es → is_of_lost e.input (entries_of Server es) ≡ false
          → ServerEnd p next t.client MayCome stepped Always unchanged own_status taken_status e (counted (entries_of Server es))
      server_end rule counts =
          let before : S = taken_status (counted (entries_of Server es)) in
          let heard : S = by_taken_up (if_to t.client stepped) e.input before in
          record {
            comes = each_always unchanged (told_to t.client e.sent) heard;
            reads = heard_same e.input before rule.step counts ∙ sym (told_status t.client unchanged e.sent heard ∙ after_unchanged (told_to t.client e.sent) heard);
          }

    both_ends : Ends p next t.client MayCome stepped Always unchanged own_status taken_status
    both_ends = record {
      start = tells.begins;
      at_client = λ e es follow rule. client_end e es follow rule;
      at_server = λ e es follow rule counts stays. server_end e es follow rule counts;
    }

    -- So the ending of a record of the thread that comes is one that may come in the status there.
    pub record_comes : (es : List Entry) → AllFollow p next es → is_lost t.client (entries_of Server es) ≡ false → (txn : Txn) → txn.thread ≡ t → IsFirst (up.Commit txn) (up_in_flight t.client es)
        → MayEnd txn.ending (taken_status (counted (entries_of Server es)))
    record_comes es follow alive txn is comes = first_may_up p next t.client MayCome stepped Always unchanged own_status taken_status es
        (ends_agree p next t.client MayCome stepped Always unchanged own_status taken_status status_commutes both_ends es follow alive) (up.Commit txn) comes
        (subst (λ u. is_thread t u ≡ true) (sym is) (thread_self t))
