-- What is said of waiters by a message that comes fits: the threads of a return, the wait that a timeout ends, the thread that a waking marks.
use Rattle.std.specs.List.{list_any, AllByRecursion}
use Rattle.std.proofs.Common.{Bool, List, None, Option, Some, [], ap, cond, false, refl, subst, sym, true, ℕ, ◌&&◌, ◌++◌, ◌||◌, ◌∙◌, ◌∷◌, ◌≡◌}
use Rattle.dso_base.specs.Following.{is_thread}
use Rattle.dso_base.specs.declared.journal.Entry.{Entry}
use Rattle.dso_base.specs.declared.journal.Input.{Input}
use Rattle.dso_base.specs.declared.journal.Input.TheVariants as input
use Rattle.dso_base.specs.declared.journal.Node.TheVariants.{Client, Server}
use Rattle.dso_base.specs.declared.lock.Level.TheVariants.{Read, Write}
use Rattle.dso_base.specs.declared.lock.LockName.{LockName}
use Rattle.dso_base.specs.declared.lock.ThreadId.{ThreadId}
use Rattle.dso_base.specs.declared.message.Down.TheVariants as down
use Rattle.dso_base.specs.declared.message.Up.TheVariants as up
use Rattle.dso_base.specs.declared.record.Ending.{Ending}
use Rattle.dso_base.specs.declared.record.Ending.TheVariants as ending
use Rattle.dso_base.specs.declared.record.Txn.{Txn}
use Rattle.dso_base.specs.declared.request.Event.{Event}
use Rattle.dso_base.specs.declared.request.Event.TheVariants.{Act}
use Rattle.dso_base.specs.declared.request.Reply.{Reply}
use Rattle.dso_base.specs.declared.request.Reply.TheVariants.{Done}
use Rattle.dso_base.specs.declared.request.Request.{Request}
use Rattle.dso_base.specs.declared.request.Request.TheVariants.{End, Exit, Timeout, Wait}
use Rattle.dso_plain.specs.After.{exited}
use Rattle.dso_plain.specs.State.{Hold}
use Rattle.dso_plain.proofs.keys.SameKeys.{same_thread, thread_self}
use Rattle.dso_law.specs.Channels.{IsFirst, down_in_flight, up_in_flight}
use Rattle.dso_law.specs.ClientWaiters.{is_marked}
use Rattle.dso_law.specs.Entries.{by_taken_up, entries_of, events_in}
use Rattle.dso_law.specs.FitsDown.{FitsWake}
use Rattle.dso_law.specs.FitsUp.{AreDistinct, IsNewWaiter}
use Rattle.dso_law.specs.Granting.{leased_to}
use Rattle.dso_law.specs.RequestNeeds.{is_enough}
use Rattle.dso_law.specs.Replies.{woken_by}
use Rattle.dso_law.specs.ServerReadings.{counted, is_lost, last_ending, last_ending_by}
use Rattle.dso_law.specs.ServerWaiters.{waiters_of}
use Rattle.dso_law.specs.Settings.{Settings}
use Rattle.dso_law.specs.Threads.{Locks, ending_by, ending_of, exit_ending, hold_in, locks_of, or_else}
use Rattle.dso_legal.specs.Lawful.{AllFollow, next_after}
use Rattle.dso_legal.specs.PendingBlocks.{locks_through, no_locks}
use Rattle.dso_legal.specs.Places.{Gone, Kept, MayPlaceDown, MayPlaceUp, place_down, place_of, place_up, place_with}
use Rattle.dso_legal.specs.SoundProgram.{AsksSoundly, TimesOutOnce, latest_ending}
use Rattle.dso_legal.proofs.blocks.Histories.{client_of_thread}
use Rattle.dso_legal.proofs.blocks.OwnActs.{IsNextAct}
use Rattle.dso_legal.proofs.blocks.SameLocks.{same_locks}
use Rattle.dso_legal.proofs.fitting.Carried.{first_of}
use Rattle.dso_legal.proofs.fitting.ReturnsOnce.{AreOwnOnce, ReturnsOnce, lists_once}
use Rattle.dso_legal.proofs.fitting.ThreadRecords.{Tells, moved, record_comes, stepped, taken_status}
use Rattle.dso_legal.proofs.fitting.ThreadsOwn.{AreIts, IsIts}
use Rattle.dso_legal.proofs.fitting.Untold.{keeps_to}
use Rattle.dso_legal.proofs.fitting.WakesOwn.{WakesIts, wakes_its}
use Rattle.dso_legal.proofs.leases.Queues.{lock_self}
use Rattle.dso_legal.proofs.records.BothEnds.{first_down, first_may_up}
use Rattle.dso_legal.proofs.waiting.KeptLeased.{kept_leased}
use Rattle.dso_legal.proofs.waiting.ListMoves.{fails}
use Rattle.dso_legal.proofs.waiting.Waiters.{WaitersStand, waiters_stand}

-- of a return: its threads are the client's, each once, none in the server's list; and there are none where the lease is at Read
pub record BringsWaiters (p : Settings) (c : ℕ) (l : LockName) (threads : List ThreadId) (server : List Entry) : Type 0 where
  pub new : AllByRecursion (IsNewWaiter p c l server) threads
  pub once : AreDistinct threads
  pub none_at_read : leased_to c l server ≡ Some Read → threads ≡ []

-- of a record that ends by a timeout: its thread's last record ended by a wait on that lock
abbrev pub EndsItsWait : Ending → Option Ending → Type 0
EndsItsWait (ending.Timeout l) last = last ≡ Some (ending.Wait l)
EndsItsWait end last = Unit {0}

-- ---- timeouts

-- one more event of the thread
latest_more : (t : ThreadId) (events : List Event) (event : Event) (locks : Locks) (latest : Option Ending)
    → latest_ending t (events ++ event ∷ []) locks latest ≡ or_else (ending_of event (locks_through t events locks)) (latest_ending t events locks latest)
latest_more t [] event locks latest = refl
latest_more t (first ∷ events) event locks latest = latest_more t events event _ _

-- what ends by a timeout is a timeout
late_act : (request : Request) (reply : Reply) (locks : Locks) (l : LockName) → ending_by request reply locks ≡ Some (ending.Timeout l) → (latest : Option Ending) → TimesOutOnce request latest → latest ≡ Some (ending.Wait l)
late_act (Timeout k) Done locks l ends latest once = once ∙ ap (λ x. Some (ending.Wait x)) (same_late ends)
  where
    same_late : Some (ending.Timeout k) ≡ Some (ending.Timeout l) → k ≡ l
    same_late is = cc is
late_act (Exit k) Done locks l ends latest once = never (exited (hold_in k locks.holds)) ends
  where
    never : (hold : Option Hold) → exit_ending k hold ≡ Some (ending.Timeout l) → latest ≡ Some (ending.Wait l)
    never None is = absurd (cc is)
    never (Some hold) is = absurd (cc is)
late_act (Wait k) Done locks l ends latest once = absurd (cc ends)
late_act (End fault) Done locks l ends latest once = absurd (cc ends)
late_act request reply locks l ends latest once = absurd (cc ends)

module _ (p : Settings) (next : ThreadId → List Event → Option Request) (sound : AsksSoundly p.shape next) (t : ThreadId) where
  abbrev last_now : Ending → Option Ending → Option Ending
  last_now end last = Some end

  abbrev latest : List Event → Option Ending
  latest events = latest_ending t events no_locks None

  moved_on : (end last : Option Ending) → moved last_now end last ≡ or_else end last
  moved_on None last = refl
  moved_on (Some end) last = refl

  latest_tells : Tells p next t EndsItsWait last_now None latest
  latest_tells = record {
    begins = refl;
    moves = λ e es follow act same.
        let own : List Entry = entries_of (Client t.client) es in
        let event : Event = Act act.thread act.request act.reply (woken_by act.request act.reply own) in
        latest_more t (events_in t own) event no_locks None
        ∙ ap (λ locks. or_else (ending_of event locks) (latest (events_in t own))) (sym (same_locks t own) ∙ ap (λ u. locks_of u own) (sym (same_thread t act.thread same)))
        ∙ sym (moved_on (ending_of event (locks_of act.thread own)) (latest (events_in t own)));
    may = λ e es follow act same end is. ends_wait e es follow act same end is;
  }
    where
      ends_wait : (e : Entry) (es : List Entry) → AllFollow p next es → (act : IsNextAct p t.client (next_after next es) e (entries_of (Client t.client) es)) → is_thread t act.thread ≡ true → (end : Ending)
          → ending_of (Act act.thread act.request act.reply (woken_by act.request act.reply (entries_of (Client t.client) es))) (locks_of act.thread (entries_of (Client t.client) es)) ≡ Some end
          → EndsItsWait end (latest (events_in t (entries_of (Client t.client) es)))
      ends_wait e es follow act same (ending.Timeout l) is = late_act act.request act.reply (locks_of act.thread (entries_of (Client t.client) es)) l is (latest (events_in t (entries_of (Client t.client) es)))
          (subst (λ u. TimesOutOnce act.request (latest_ending u (events_in u (entries_of (Client u.client) es)) no_locks None)) (same_thread t act.thread same)
          (keeps_to p next sound es follow act.thread act.request act.asked).times_out_once)
      ends_wait e es follow act same end is = tt

  last_taken : (server : List Entry) → taken_status p next t EndsItsWait last_now None latest server ≡ last_ending t server
  last_taken [] = refl
  last_taken (e ∷ server) = by e.input (taken_status p next t EndsItsWait last_now None latest server) (last_ending t server) (last_taken server)
    where
      by : (i : Input) (a b : Option Ending) → a ≡ b → by_taken_up (λ c m s. stepped p next t EndsItsWait last_now None latest m s) i a ≡ by_taken_up (last_ending_by t) i b
      by (input.TookUp d (up.Commit txn)) a b same = ap (λ last. cond (is_thread t txn.thread) (Some txn.ending) last) same
      by (input.TookUp d up.IdAsk) a b same = same
      by (input.TookUp d (up.Fault o)) a b same = same
      by (input.TookUp d (up.Flushed o)) a b same = same
      by (input.TookUp d (up.Request l level)) a b same = same
      by (input.TookUp d (up.Return l threads)) a b same = same
      by i a b same = same

  pub record_ends_wait : (es : List Entry) → AllFollow p next es → is_lost t.client (entries_of Server es) ≡ false → (txn : Txn) → txn.thread ≡ t → IsFirst (up.Commit txn) (up_in_flight t.client es)
      → EndsItsWait txn.ending (last_ending t (counted (entries_of Server es)))
  record_ends_wait es follow alive txn is first = subst (EndsItsWait txn.ending) (last_taken (counted (entries_of Server es))) (record_comes p next t EndsItsWait last_now None latest latest_tells es follow alive txn is first)

module _ (p : Settings) (next : ThreadId → List Event → Option Request) (sound : AsksSoundly p.shape next) (es : List Entry) (follow : AllFollow p next es) (c : ℕ) where
  abbrev server : List Entry
  server = counted (entries_of Server es)

  abbrev mine : List Entry
  mine = entries_of (Client c) es

  stand : WaitersStand p next sound es
  stand = waiters_stand p next sound es follow

  -- ---- a return

  module _ (alive : is_lost c (entries_of Server es) ≡ false) (l : LockName) (threads : List ThreadId) (first : IsFirst (up.Return l threads) (up_in_flight c es)) where
    own_once : AreOwnOnce p c threads
    own_once = first_of (ReturnsOnce p c) (up.Return l threads) (up_in_flight c es) first (lists_once p next sound c es follow).up

    -- each of its threads is kept, as the server tells
    module _ (t : ThreadId) (its : IsIts p c t) (there : list_any (is_thread t) threads ≡ true) where
      client_is : t.client ≡ c
      client_is = client_of_thread p c t its

      alive_too : is_lost t.client (entries_of Server es) ≡ false
      alive_too = subst (λ n. is_lost n (entries_of Server es) ≡ false) (sym client_is) alive

      is_kept : place_with t.client l t server ≡ Kept
      is_kept = (first_may_up p next t.client (MayPlaceUp l t) (place_up l t) (MayPlaceDown l t) (place_down l t) (place_of l t) (place_with t.client l t) es (stand.agree l t alive_too) (up.Return l threads)
          (subst (λ n. IsFirst (up.Return l threads) (up_in_flight n es)) (sym client_is) first) (lock_self l)).0 there

      is_new : IsNewWaiter p c l server t
      is_new = (its, fails (list_any (is_thread t) (waiters_of l server)) (λ listed. cc (sym is_kept ∙ (stand.server l t alive_too).gone.0 listed)))

      at_write : is_enough Write (leased_to c l server) ≡ true
      at_write = subst (λ n. is_enough Write (leased_to n l server) ≡ true) client_is (kept_leased p next sound es follow l t alive_too is_kept)

    each_new : (some : List ThreadId) → AreIts p c some → ((t : ThreadId) → list_any (is_thread t) some ≡ true → list_any (is_thread t) threads ≡ true) → AllByRecursion (IsNewWaiter p c l server) some
    each_new [] its part = tt
    each_new (t ∷ some) its part = (
      is_new t its.0 (part t (ap (λ b. b || list_any (is_thread t) some) (thread_self t))),
      each_new some its.1 (λ u there. part u (later (is_thread u t) (list_any (is_thread u) some) there)),
    )
      where
        later : (a b : Bool) → b ≡ true → (a || b) ≡ true
        later true b is = refl
        later false b is = is

    none_at_read : (some : List ThreadId) → AreIts p c some → ((t : ThreadId) → list_any (is_thread t) some ≡ true → list_any (is_thread t) threads ≡ true) → leased_to c l server ≡ Some Read → some ≡ []
    none_at_read [] its part read = refl
    none_at_read (t ∷ some) its part read = absurd (cc (sym (ap (is_enough Write) read) ∙ at_write t its.0 (part t (ap (λ b. b || list_any (is_thread t) some) (thread_self t)))))

    pub brings_waiters : BringsWaiters p c l threads server
    brings_waiters = record {
      new = each_new threads own_once.its (λ t there. there);
      once = own_once.once;
      none_at_read = none_at_read threads own_once.its (λ t there. there);
    }

  -- ---- a waking

  pub wake_fits : (l : LockName) (t : ThreadId) → IsFirst (down.Wake l t) (down_in_flight c es) → FitsWake c l t mine
  wake_fits l t first = record {
    its = client_is;
    waits = (stand.client c l).placed t (λ away. cc (sym gone ∙ away));
    unmarked = fails (is_marked t mine) (λ marked. ((stand.client c l).marked t ((stand.client c l).placed t (λ away. cc (sym gone ∙ away))) marked).1 gone);
    unlisted = (stand.client c l).gone t gone;
  }
    where
      client_is : t.client ≡ c
      client_is = first_of (WakesIts c) (down.Wake l t) (down_in_flight c es) first (wakes_its p next c es follow)

      gone : place_of l t mine ≡ Gone
      gone = subst (λ n. place_of l t (entries_of (Client n) es) ≡ Gone) client_is
          (first_down p next t.client (MayPlaceUp l t) (place_up l t) (MayPlaceDown l t) (place_down l t) (place_of l t) (place_with t.client l t) (down.Wake l t) (down_in_flight t.client es)
          (place_of l t (entries_of (Client t.client) es)) (subst (λ n. IsFirst (down.Wake l t) (down_in_flight n es)) (sym client_is) first) (stand.downs l t)
          (ap (λ b. b && is_thread t t) (lock_self l) ∙ thread_self t))
