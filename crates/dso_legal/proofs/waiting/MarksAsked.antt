-- A block that ends in a timeout asks for no mark: its thread waited, unmarked, from the block's beginning on.
use Rattle.std.specs.List.{list_any, AllByRecursion}
use Rattle.std.proofs.Common.{ℕ, ◌≡◌, ◌⊎◌, inl, inr, refl, sym, ◌∙◌, ap, subst, Bool, true, false, cond, eqb, ◌&&◌, ◌||◌, is_some, Option, Some, None, List, [], ◌∷◌, ◌++◌}
use Rattle.dso_base.specs.declared.journal.Entry.{Entry}
use Rattle.dso_base.specs.declared.journal.Input.{Input}
use Rattle.dso_base.specs.declared.journal.Input.TheVariants as input
use Rattle.dso_base.specs.declared.journal.Node.{Node}
use Rattle.dso_base.specs.declared.journal.Node.TheVariants.{Server, Client}
use Rattle.dso_base.specs.declared.lock.LockName.{LockName}
use Rattle.dso_base.specs.declared.lock.ThreadId.{ThreadId}
use Rattle.dso_base.specs.declared.message.Down.TheVariants as down
use Rattle.dso_base.specs.declared.record.Ending.{Ending}
use Rattle.dso_base.specs.declared.request.Event.{Event}
use Rattle.dso_base.specs.declared.request.Event.TheVariants.{Act, Lost}
use Rattle.dso_base.specs.declared.request.Reply.{Reply}
use Rattle.dso_base.specs.declared.request.Reply.TheVariants.{Done, Val}
use Rattle.dso_base.specs.declared.request.Request.{Request}
use Rattle.dso_base.specs.declared.request.Request.TheVariants.{New, Look, Get, Put, Enter, Exit, Wait, Tick, Timeout, Resume, Notify, NotifyAll, Print, End, Pause, Settle}
use Rattle.dso_base.specs.declared.value.Value.TheVariants as value
use Rattle.dso_base.specs.Following.{is_thread}
use Rattle.dso_plain.specs.History.{is_act_of}
use Rattle.dso_plain.proofs.keys.SameKeys.{same_number, same_thread, thread_self}
use Rattle.dso_law.specs.ClientWaiters.{marked_by_taken, marked_by_act, marked_by_event, is_marked, is_listed, is_woken}
use Rattle.dso_law.specs.Entries.{entries_of, by_taken_down, by_event, events_in}
use Rattle.dso_law.specs.Replies.{timeout_reply, woken_by, reply_of}
use Rattle.dso_law.specs.Settings.{Settings}
use Rattle.dso_law.specs.Threads.{Locks, Waiting, resumed, locks_by, locks_after, locks_of, ending_by, block_after, open_block}
use Rattle.dso_legal.specs.Committed.{block_if, ended_by, ended_blocks}
use Rattle.dso_legal.specs.Lawful.{next_after, ClientFollows, NodeFollows, AllFollow}
use Rattle.dso_legal.specs.SoundProgram.{AsksSoundly, KeepsLocks, KeepsTo}
use Rattle.dso_legal.proofs.fitting.Untold.{AllUntold, all_untold}
use Rattle.dso_legal.proofs.blocks.EachEvent.{each_both}
use Rattle.dso_legal.proofs.blocks.OwnActs.{next_act, threads_follow, threads_wait, own_acts}
use Rattle.dso_legal.proofs.blocks.SameLocks.{same_locks}
use Rattle.dso_legal.proofs.blocks.WaitsApart.{does_wait}
use Rattle.dso_legal.proofs.leases.LeaseSteps.{no_both}
use Rattle.dso_legal.proofs.records.BothEnds.{client_with}
use Rattle.dso_legal.proofs.waiting.ServerWaiters.{any_append}

-- the act asks for its thread's mark: it goes on after a wait, or is told that it was woken
abbrev pub asks_mark : Request → Reply → Bool
asks_mark (New class n) reply = false
asks_mark (Look o) reply = false
asks_mark (Get o f) reply = false
asks_mark (Put o f v) reply = false
asks_mark (Enter l level) reply = false
asks_mark (Exit l) reply = false
asks_mark (Wait l) reply = false
asks_mark (Tick l) (Val (value.Bool true)) = true
asks_mark (Tick l) reply = false
asks_mark (Timeout l) (Val (value.Bool true)) = true
asks_mark (Timeout l) reply = false
asks_mark (Resume l) reply = true
asks_mark (Notify l) reply = false
asks_mark (NotifyAll l) reply = false
asks_mark (Print v) reply = false
asks_mark (End fault) reply = false
asks_mark Pause reply = false
asks_mark Settle reply = false

abbrev pub event_asks_mark : Event → Bool
event_asks_mark (Act t request reply woken) = asks_mark request reply
event_asks_mark (Lost client) = false

-- the act times out in time
abbrev pub is_timeout : Request → Reply → Bool
is_timeout (New class n) reply = false
is_timeout (Look o) reply = false
is_timeout (Get o f) reply = false
is_timeout (Put o f v) reply = false
is_timeout (Enter l level) reply = false
is_timeout (Exit l) reply = false
is_timeout (Wait l) reply = false
is_timeout (Tick l) reply = false
is_timeout (Timeout l) Done = true
is_timeout (Timeout l) reply = false
is_timeout (Resume l) reply = false
is_timeout (Notify l) reply = false
is_timeout (NotifyAll l) reply = false
is_timeout (Print v) reply = false
is_timeout (End fault) reply = false
is_timeout Pause reply = false
is_timeout Settle reply = false

abbrev pub event_times_out : Event → Bool
event_times_out (Act t request reply woken) = is_timeout request reply
event_times_out (Lost client) = false

-- a block that times out asks for no mark
abbrev pub IsUnasked : List Event → Type 0
IsUnasked block = list_any event_times_out block ≡ true → list_any event_asks_mark block ≡ false

-- By a client's entries: no open block times out; whose open block asks for its mark waits no more, or is marked; and no ended block
-- that times out asks for one.
pub record AsksFairly (own : List Entry) : Type 0 where
  pub in_time : (t : ThreadId) → list_any event_times_out (open_block t own) ≡ false
  pub asks : (t : ThreadId) → list_any event_asks_mark (open_block t own) ≡ true → ((locks_of t own).waiting ≡ None) ⊎ (is_marked t own ≡ true)
  pub ended : AllByRecursion IsUnasked (ended_blocks own)

-- an act that ends no block doesn't time out
open_in_time : (request : Request) (reply : Reply) (locks : Locks) → ending_by request reply locks ≡ None → is_timeout request reply ≡ false
open_in_time (Timeout l) Done locks stays = absurd (cc stays)
open_in_time request reply locks stays = refl

-- an act that ends a block doesn't ask for its mark
ended_unasking : (request : Request) (reply : Reply) (locks : Locks) (end : Ending) → ending_by request reply locks ≡ Some end → asks_mark request reply ≡ false
ended_unasking (Exit l) Done locks end ends = refl
ended_unasking (Wait l) Done locks end ends = refl
ended_unasking (Timeout l) Done locks end ends = refl
ended_unasking (End fault) Done locks end ends = refl
ended_unasking request reply locks end ends = absurd (cc ends)

-- who doesn't wait, waits after an act only where it ends a block
awake_still : (request : Request) (reply : Reply) (locks : Locks) → ending_by request reply locks ≡ None → locks.waiting ≡ None → (locks_by request reply locks).waiting ≡ None
awake_still (Enter l level) Done locks stays awake = awake
awake_still (Exit l) Done locks stays awake = awake
awake_still (Wait l) Done locks stays awake = absurd (cc stays)
awake_still (Resume l) Done locks stays awake = subst (λ waiting. (resumed l waiting locks).waiting ≡ None) (sym awake) awake
awake_still request reply locks stays awake = awake

-- who goes on waits no more
resumed_awake : (l : LockName) (waiting : Option Waiting) (locks : Locks) → locks.waiting ≡ waiting → (resumed l waiting locks).waiting ≡ None
resumed_awake l None locks is = is
resumed_awake l (Some waiting) locks is = refl

-- a mark stays but for the thread's own wait
either_or : (a b : Bool) → b ≡ true → (a || b) ≡ true
either_or true b is = refl
either_or false b is = is

mark_taken : (t : ThreadId) (i : Input) (before : Bool) → before ≡ true → by_taken_down (marked_by_taken t) i before ≡ true
mark_taken t (input.TookDown (down.Wake l u)) before is = either_or (is_thread t u) before is
mark_taken t (input.TookDown m) before is = is
mark_taken t i before is = is

mark_stays : (t : ThreadId) (own : List Entry) (u : ThreadId) (request : Request) (reply : Reply) (woken : Option ThreadId) (locks : Locks) (before : Bool) → (is_thread t u ≡ true → ending_by request reply locks ≡ None) → before ≡ true
    → marked_by_act t own u request reply woken before ≡ true
mark_stays t own u (Wait l) Done woken locks before stays is = by (is_thread t u) refl
  where
    by : (b : Bool) → is_thread t u ≡ b → cond b false before ≡ true
    by true same = absurd (cc (stays same))
    by false other = is
mark_stays t own u (Timeout l) Done woken locks before stays is = either_or (is_thread t u && is_listed t l own) before is
mark_stays t own u (Notify l) Done woken locks before stays is = either_or (is_woken t woken) before is
mark_stays t own u (NotifyAll l) Done woken locks before stays is = either_or (is_listed t l own) before is
mark_stays t own u request reply woken locks before stays is = is

-- an answer to a timeout: in time the thread is unmarked, else it is marked
done_unmarked : (b : Bool) → Some (timeout_reply b) ≡ Some Done → b ≡ false
done_unmarked true answered = absurd (cc answered)
done_unmarked false answered = refl

late_marked : (b : Bool) → Some (timeout_reply b) ≡ Some (Val (value.Bool true)) → b ≡ true
late_marked true answered = refl
late_marked false answered = absurd (cc answered)

-- An act of a thread a after entries of its client, which only times out where it waits.
module _ (p : Settings) (own : List Entry) (a : ThreadId) (request : Request) (reply : Reply) (keeps : KeepsLocks request (locks_of a own)) (answered : reply_of p a request own ≡ Some reply) where
  abbrev act : Event
  act = Act a request reply (woken_by request reply own)

  -- who asks for its mark so is marked, or waits no more
  asks_now : (request : Request) (reply : Reply) → reply_of p a request own ≡ Some reply → asks_mark request reply ≡ true → ((locks_by request reply (locks_of a own)).waiting ≡ None) ⊎ (is_marked a own ≡ true)
  asks_now (Tick l) (Val (value.Bool true)) answered is = inr (told cc)
    where
      told : value.Bool (is_marked a own) ≡ value.Bool true → is_marked a own ≡ true
      told same = cc same
  asks_now (Timeout l) (Val (value.Bool true)) answered is = inr (late_marked (is_marked a own) answered)
  asks_now (Resume l) Done answered is = inl (resumed_awake l (locks_of a own).waiting (locks_of a own) refl)
  asks_now (Resume l) reply answered is = absurd (cc answered)
  asks_now request reply answered is = absurd (cc is)

  module _ (fair : AsksFairly own) where
    -- the block that it ends
    times_out_unasked : (request : Request) (reply : Reply) → KeepsLocks request (locks_of a own) → reply_of p a request own ≡ Some reply → is_timeout request reply ≡ true → list_any event_asks_mark (open_block a own) ≡ false
    times_out_unasked (Timeout l) Done keeps answered is = by (list_any event_asks_mark (open_block a own)) refl
      where
        by : (b : Bool) → list_any event_asks_mark (open_block a own) ≡ b → b ≡ false
        by true asks = elim (fair.asks a asks) [
          | inl awake ↦ absurd (does_wait l (locks_of a own).waiting keeps awake)
          | inr marked ↦ no_both (is_marked a own) marked (done_unmarked (is_marked a own) answered)
        ]
        by false none = refl
    times_out_unasked request reply keeps answered is = absurd (cc is)

    ended_unasked : (end : Ending) → ending_by request reply (locks_of a own) ≡ Some end → IsUnasked (open_block a own ++ act ∷ [])
    ended_unasked end ends late =
        let now : is_timeout request reply ≡ true = last (is_timeout request reply) (sym (any_append event_times_out (open_block a own) (act ∷ []) ∙ ap (λ b. b || (is_timeout request reply || false)) (fair.in_time a)) ∙ late) in
        any_append event_asks_mark (open_block a own) (act ∷ []) ∙ ap (λ b. b || (asks_mark request reply || false)) (times_out_unasked request reply keeps answered now) ∙ ap (λ b. b || false) (ended_unasking request reply (locks_of a own) end ends)
      where
        last : (b : Bool) → (b || false) ≡ true → b ≡ true
        last true e = refl
        last false e = e

    -- a's open block after it, by whether it ends there
    record OpenAfter (end : Option Ending) : Type 0 where
      in_time : list_any event_times_out (cond (is_some end) [] (open_block a own ++ act ∷ [])) ≡ false
      asks : list_any event_asks_mark (cond (is_some end) [] (open_block a own ++ act ∷ [])) ≡ true → ((locks_by request reply (locks_of a own)).waiting ≡ None) ⊎ (is_marked a own ≡ true)

    open_after : (end : Option Ending) → ending_by request reply (locks_of a own) ≡ end → OpenAfter end
    open_after (Some end) ends = record { in_time = refl; asks = λ is. absurd (cc is) }
    open_after None ends = record {
      in_time = any_append event_times_out (open_block a own) (act ∷ []) ∙ ap (λ b. b || (is_timeout request reply || false)) (fair.in_time a) ∙ ap (λ b. b || false) (open_in_time request reply (locks_of a own) ends);
      asks = λ is. by (list_any event_asks_mark (open_block a own)) refl (sym (any_append event_asks_mark (open_block a own) (act ∷ [])) ∙ is);
    }
      where
        last : (b : Bool) → (b || false) ≡ true → b ≡ true
        last true e = refl
        last false e = e

        by : (b : Bool) → list_any event_asks_mark (open_block a own) ≡ b → (b || (asks_mark request reply || false)) ≡ true → ((locks_by request reply (locks_of a own)).waiting ≡ None) ⊎ (is_marked a own ≡ true)
        by true before is = elim (fair.asks a before) [
          | inl awake ↦ inl (awake_still request reply (locks_of a own) ends awake)
          | inr marked ↦ inr marked
        ]
        by false none is = asks_now request reply answered (last (asks_mark request reply) is)

    -- the marks after it, by those before its event
    module _ (before : ThreadId → Bool) (grown : (t : ThreadId) → is_marked t own ≡ true → before t ≡ true) where
      abbrev marked_after : ThreadId → Bool
      marked_after t = marked_by_act t own a request reply (woken_by request reply own) (before t)

      -- of each thread
      record ThreadAfter (t : ThreadId) : Type 0 where
        in_time : list_any event_times_out (cond (is_thread t a) (block_after act (locks_of t own) (open_block t own)) (open_block t own)) ≡ false
        asks : list_any event_asks_mark (cond (is_thread t a) (block_after act (locks_of t own) (open_block t own)) (open_block t own)) ≡ true
            → ((cond (is_thread t a) (locks_by request reply (locks_of t own)) (locks_of t own)).waiting ≡ None) ⊎ (marked_after t ≡ true)

      own_after : is_thread a a ≡ true → ThreadAfter a
      own_after same = record {
        in_time = subst (λ b. list_any event_times_out (cond b (block_after act (locks_of a own) (open_block a own)) (open_block a own)) ≡ false) (sym same) (now end refl).in_time;
        asks = subst (λ b. list_any event_asks_mark (cond b (block_after act (locks_of a own) (open_block a own)) (open_block a own)) ≡ true → ((cond b (locks_by request reply (locks_of a own)) (locks_of a own)).waiting ≡ None) ⊎ (marked_after a ≡ true)) (sym same) (asks end refl);
      }
        where
          end : Option Ending
          end = ending_by request reply (locks_of a own)

          now : (x : Option Ending) → ending_by request reply (locks_of a own) ≡ x → OpenAfter x
          now x is = open_after x is

          asks : (x : Option Ending) → ending_by request reply (locks_of a own) ≡ x → list_any event_asks_mark (cond (is_some x) [] (open_block a own ++ act ∷ [])) ≡ true
              → ((locks_by request reply (locks_of a own)).waiting ≡ None) ⊎ (marked_after a ≡ true)
          asks (Some x) is asked = absurd (cc asked)
          asks None is asked = elim ((open_after None is).asks asked) [
            | inl awake ↦ inl awake
            | inr marked ↦ inr (mark_stays a own a request reply (woken_by request reply own) (locks_of a own) (before a) (λ _. is) (grown a marked))
          ]

      other_after : (t : ThreadId) → is_thread t a ≡ false → ThreadAfter t
      other_after t other = record {
        in_time = subst (λ b. list_any event_times_out (cond b (block_after act (locks_of t own) (open_block t own)) (open_block t own)) ≡ false) (sym other) (fair.in_time t);
        asks = subst (λ b. list_any event_asks_mark (cond b (block_after act (locks_of t own) (open_block t own)) (open_block t own)) ≡ true → ((cond b (locks_by request reply (locks_of t own)) (locks_of t own)).waiting ≡ None) ⊎ (marked_after t ≡ true)) (sym other)
            (λ asked. elim (fair.asks t asked) [
              | inl awake ↦ inl awake
              | inr marked ↦ inr (mark_stays t own a request reply (woken_by request reply own) (locks_of a own) (before t) (λ same. no_both (is_thread t a) same other) (grown t marked))
            ]);
      }

      thread_after : (t : ThreadId) (b : Bool) → is_thread t a ≡ b → ThreadAfter t
      thread_after t true same = subst ThreadAfter (same_thread t a same) (own_after (thread_self a))
      thread_after t false other = other_after t other

    ended_after : (end : Option Ending) → ending_by request reply (locks_of a own) ≡ end → AllByRecursion IsUnasked (ended_blocks own ++ block_if end (open_block a own ++ act ∷ []))
    ended_after None ends = each_both IsUnasked (ended_blocks own) [] fair.ended tt
    ended_after (Some end) ends = each_both IsUnasked (ended_blocks own) ((open_block a own ++ act ∷ []) ∷ []) fair.ended (ended_unasked end ends, tt)

-- what a client's entry makes of it
module _ (e : Entry) (own : List Entry) (fair : AsksFairly own) where
  abbrev taken_marks : ThreadId → Bool
  taken_marks t = by_taken_down (marked_by_taken t) e.input (is_marked t own)

  no_event : e.event ≡ None → AsksFairly (e ∷ own)
  no_event none = record {
    in_time = λ t. subst (λ ev. list_any event_times_out (by_event (λ event block. cond (is_act_of t event) (block_after event (locks_of t own) block) block) ev (open_block t own)) ≡ false) (sym none) (fair.in_time t);
    asks = λ t. subst (λ ev. list_any event_asks_mark (by_event (λ event block. cond (is_act_of t event) (block_after event (locks_of t own) block) block) ev (open_block t own)) ≡ true
        → ((by_event (locks_after t) ev (locks_of t own)).waiting ≡ None) ⊎ (by_event (marked_by_event t own) ev (taken_marks t) ≡ true)) (sym none)
        (λ asked. elim (fair.asks t asked) [
          | inl awake ↦ inl awake
          | inr marked ↦ inr (mark_taken t e.input (is_marked t own) marked)
        ]);
    ended = subst (λ ev. AllByRecursion IsUnasked (by_event (λ event blocks. blocks ++ ended_by event own) ev (ended_blocks own))) (sym none) fair.ended;
  }

  an_act : (p : Settings) (a : ThreadId) (request : Request) (reply : Reply) → KeepsLocks request (locks_of a own) → reply_of p a request own ≡ Some reply → e.event ≡ Some (Act a request reply (woken_by request reply own)) → AsksFairly (e ∷ own)
  an_act p a request reply keeps answered event = record {
    in_time = λ t. subst (λ ev. list_any event_times_out (by_event (λ event block. cond (is_act_of t event) (block_after event (locks_of t own) block) block) ev (open_block t own)) ≡ false) (sym event) (at t).in_time;
    asks = λ t. subst (λ ev. list_any event_asks_mark (by_event (λ event block. cond (is_act_of t event) (block_after event (locks_of t own) block) block) ev (open_block t own)) ≡ true
        → ((by_event (locks_after t) ev (locks_of t own)).waiting ≡ None) ⊎ (by_event (marked_by_event t own) ev (taken_marks t) ≡ true)) (sym event) (at t).asks;
    ended = subst (λ ev. AllByRecursion IsUnasked (by_event (λ event blocks. blocks ++ ended_by event own) ev (ended_blocks own))) (sym event)
        (ended_after p own a request reply keeps answered fair (ending_by request reply (locks_of a own)) refl);
  }
    where
      at : (t : ThreadId) → ThreadAfter p own a request reply keeps answered fair taken_marks (λ u. mark_taken u e.input (is_marked u own)) t
      at t = thread_after p own a request reply keeps answered fair taken_marks (λ u. mark_taken u e.input (is_marked u own)) t (is_thread t a) refl

module _ (p : Settings) (next : ThreadId → List Event → Option Request) (sound : AsksSoundly p.shape next) where
  module _ (e : Entry) (es : List Entry) (follow : AllFollow p next es) (untold : AllUntold es) where
    -- an act keeps to the thread's locks
    keeps_at : (a : ThreadId) (request : Request) → next_after next es a ≡ Some request → KeepsLocks request (locks_of a (entries_of (Client a.client) es))
    keeps_at a request asked =
        let own : List Entry = entries_of (Client a.client) es in
        let keeps : KeepsTo p.shape a (events_in a own) request = sound.keeps a (events_in a own) request (own_acts a own) (untold a) (threads_wait p next a es follow) (threads_follow p next a es follow) asked in
        subst (KeepsLocks request) (sym (same_locks a own)) keeps.locks

    fair_client : (c : ℕ) → ClientFollows p next c e es → AsksFairly (entries_of (Client c) es) → AsksFairly (e ∷ entries_of (Client c) es)
    fair_client c rule fair = elim (next_act p c (next_after next es) (next_after next (e ∷ es)) e (entries_of (Client c) es) rule.step) [
      | inl none ↦ no_event e (entries_of (Client c) es) fair none
      | inr it ↦ an_act e (entries_of (Client c) es) fair p it.thread it.request it.reply
          (subst (λ n. KeepsLocks it.request (locks_of it.thread (entries_of (Client n) es))) it.its (keeps_at it.thread it.request it.asked)) it.answered it.event
    ]

    fair_at : (c : ℕ) (node : Node) → NodeFollows p next node e es → AsksFairly (entries_of (Client c) es) → AsksFairly (client_with c node e es)
    fair_at c Server rule fair = fair
    fair_at c (Client d) rule fair = by (eqb c d) refl
      where
        by : (b : Bool) → eqb c d ≡ b → AsksFairly (cond b (e ∷ entries_of (Client c) es) (entries_of (Client c) es))
        by true same = fair_client c (subst (λ n. ClientFollows p next n e es) (sym (same_number c d same)) rule) fair
        by false other = fair

  -- Over entries that follow one another no block that times out asks for a mark.
  pub asks_fairly : (es : List Entry) → AllFollow p next es → (c : ℕ) → AsksFairly (entries_of (Client c) es)
  asks_fairly [] follow c = record { in_time = λ t. refl; asks = λ t is. absurd (cc is); ended = tt }
  asks_fairly (e ∷ es) follow c = fair_at e es follow.0 (all_untold p next sound es follow.0) c e.node follow.1.rule (asks_fairly es follow.0 c)
