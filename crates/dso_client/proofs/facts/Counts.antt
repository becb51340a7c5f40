-- Who holds a lock entered it once at least, and so did who waits on one.
use Rattle.std.specs.Option.{IfSome}
use Rattle.std.proofs.Common.{◌≡◌, ℕ, ◌-◌, ◌≤◌, refl, sym, ◌∙◌, ap, subst, arith, Bool, true, false, cond, eqb, is_some, Option, Some, None, List, [], ◌∷◌}
use Rattle.dso_base.specs.declared.journal.Entry.{Entry}
use Rattle.dso_base.specs.declared.journal.Input.{Input}
use Rattle.dso_base.specs.declared.journal.Input.TheVariants as input
use Rattle.dso_base.specs.declared.lock.Level.{Level}
use Rattle.dso_base.specs.declared.lock.Level.TheVariants.{Write}
use Rattle.dso_base.specs.declared.lock.LockName.{LockName}
use Rattle.dso_base.specs.declared.lock.ThreadId.{ThreadId}
use Rattle.dso_base.specs.declared.request.Event.{Event}
use Rattle.dso_base.specs.declared.request.Event.TheVariants.{Act}
use Rattle.dso_base.specs.declared.request.Reply.{Reply}
use Rattle.dso_base.specs.declared.request.Reply.TheVariants.{Done}
use Rattle.dso_base.specs.declared.request.Request.{Request}
use Rattle.dso_base.specs.declared.request.Request.TheVariants.{Enter, Exit, Wait, Resume}
use Rattle.dso_base.specs.Following.{is_thread}
use Rattle.dso_plain.specs.After.{entered, exited, count_of}
use Rattle.dso_plain.specs.KeyTests.{is_lock}
use Rattle.dso_plain.specs.State.{Hold}
use Rattle.dso_plain.proofs.keys.SameKeys.{same_thread}
use Rattle.dso_law.specs.Entries.{by_event}
use Rattle.dso_law.specs.Settings.{Settings}
use Rattle.dso_law.specs.Threads.{Held, Waiting, Locks, hold_in, with_hold, resumed, locks_by, locks_after, locks_of, hold_of}
use Rattle.dso_law.specs.RequestNeeds.{Need, hold_level, unmet}
use Rattle.dso_law.specs.Replies.{monitor_reply, woken_by, reply_of}
use Rattle.dso_law.specs.ClientStep.{DoesOrAsks, ActsOn, ClientStepOn}
use Rattle.dso_law.specs.ClientRun.{ClientRun, next_in}
use Rattle.dso_law.proofs.client.ClientLaws.{holds_after}

-- the hold is there once at least, where it is there
abbrev pub AtLeastOnce : Option Hold → Type 0
AtLeastOnce hold = IfSome hold (λ (hold : Hold). 1 ≤ hold.count)

-- so each hold, and the one to be had again
pub record Counted (locks : Locks) : Type 0 where
  pub held : (l : LockName) → AtLeastOnce (hold_in l locks.holds)
  pub waiting : IfSome locks.waiting (λ (waiting : Waiting). 1 ≤ waiting.count)

once_entered : (level : Level) (before : Option Hold) → AtLeastOnce before → AtLeastOnce (entered level before)
once_entered level None h = omega arith
once_entered level (Some hold) h = omega arith

one_less : (n : ℕ) → 1 ≤ n → (b : Bool) → eqb n 1 ≡ b → (level : Level) → AtLeastOnce (cond b None (Some (record { level = level; count = n - 1 })))
one_less n h true e level = tt
one_less n h false e level = by n h e
  where
    by : (n : ℕ) → 1 ≤ n → eqb n 1 ≡ false → 1 ≤ n - 1
    by n h e = let differ = isnt n e in omega (arith, h, differ)
      where
        isnt : (n : ℕ) → eqb n 1 ≡ false → (n ≡ 1 → ⊥)
        isnt n e same = absurd (cc (sym e ∙ ap (λ k. eqb k 1) same))

once_exited : (before : Option Hold) → AtLeastOnce before → AtLeastOnce (exited before)
once_exited None h = tt
once_exited (Some hold) h = one_less hold.count h (eqb hold.count 1) refl hold.level

-- the holds with one of them changed
once_with : (l k : LockName) (hold : Option Hold) (holds : List Held) → AtLeastOnce hold → AtLeastOnce (hold_in k holds) → AtLeastOnce (hold_in k (with_hold l hold holds))
once_with l k hold holds new old = subst AtLeastOnce (sym (holds_after l k hold holds)) (by (is_lock l k))
  where
    by : (b : Bool) → AtLeastOnce (cond b hold (hold_in k holds))
    by true = new
    by false = old

-- a hold that is there
there : (hold : Option Hold) → is_some hold ≡ true → AtLeastOnce hold → 1 ≤ count_of hold
there None e h = absurd (cc e)
there (Some hold) e h = h

counted_resumed : (l : LockName) (waiting : Option Waiting) (locks : Locks) → IfSome waiting (λ (waiting : Waiting). 1 ≤ waiting.count) → Counted locks → Counted (resumed l waiting locks)
counted_resumed l None locks owed h = h
counted_resumed l (Some waiting) locks owed h = record {
  held = λ k. once_with l k (Some (record { level = Write; count = waiting.count })) locks.holds owed (h.held k);
  waiting = tt;
}

-- a wait is of a lock that is held
abbrev WaitsHolding : Request → Reply → Locks → Type 0
WaitsHolding request reply locks = (l : LockName) → request ≡ Wait l → reply ≡ Done → is_some (hold_in l locks.holds) ≡ true

counted_by : (request : Request) (reply : Reply) (locks : Locks) → WaitsHolding request reply locks → Counted locks → Counted (locks_by request reply locks)
counted_by (Enter l level) Done locks holding h = record {
  held = λ k. once_with l k (entered level (hold_in l locks.holds)) locks.holds (once_entered level (hold_in l locks.holds) (h.held l)) (h.held k);
  waiting = h.waiting;
}
counted_by (Exit l) Done locks holding h = record {
  held = λ k. once_with l k (exited (hold_in l locks.holds)) locks.holds (once_exited (hold_in l locks.holds) (h.held l)) (h.held k);
  waiting = h.waiting;
}
counted_by (Wait l) Done locks holding h = record {
  held = λ k. once_with l k None locks.holds tt (h.held k);
  waiting = there (hold_in l locks.holds) (holding l refl refl) (h.held l);
}
counted_by (Resume l) Done locks holding h = counted_resumed l locks.waiting locks h.waiting h
counted_by request reply locks holding h = h

-- where a wait is answered with done, its lock is held
waits_holding : (p : Settings) (t : ThreadId) (es : List Entry) (request : Request) (reply : Reply) → reply_of p t request es ≡ Some reply → WaitsHolding request reply (locks_of t es)
waits_holding p t es request reply answered l is done =
    by (hold_of t l es) (sym (ap (λ r. reply_of p t r es) is) ∙ (answered ∙ ap Some done))
  where
    by : (hold : Option Hold) → Some (monitor_reply (hold_level hold)) ≡ Some Done → is_some hold ≡ true
    by None e = absurd (cc e)
    by (Some hold) e = refl

module _ (t : ThreadId) where
  module _ (p : Settings) (c : ℕ) (before later : ThreadId → Option Request) (e : Entry) (es : List Entry) (h : Counted (locks_of t es)) where
    by_the_event : (event : Option Event) → e.event ≡ event → Counted (by_event (locks_after t) event (locks_of t es)) → Counted (locks_of t (e ∷ es))
    by_the_event event is counted = subst (λ event. Counted (by_event (locks_after t) event (locks_of t es))) (sym is) counted

    acted : (u : ThreadId) (request : Request) (reply : Reply) → reply_of p u request es ≡ Some reply → Counted (locks_after t (Act u request reply (woken_by request reply es)) (locks_of t es))
    acted u request reply answered = by (is_thread t u) refl
      where
        by : (b : Bool) → is_thread t u ≡ b → Counted (cond b (locks_by request reply (locks_of t es)) (locks_of t es))
        by false e = h
        by true e = counted_by request reply (locks_of t es) (waits_holding p t es request reply (ap (λ x. reply_of p x request es) (sym (same_thread t u e)) ∙ answered)) h

    by_need : (u : ThreadId) (request : Request) (need : Option Need) → DoesOrAsks p c u request need before later e es → Counted (locks_of t (e ∷ es))
    by_need u request None does = by_the_event (Some (Act u request does.reply (woken_by request does.reply es))) does.event (acted u request does.reply does.answered)
    by_need u request (Some need) asks = by_the_event None asks.event h

    by_request : (u : ThreadId) (request : Option Request) → ActsOn p c u request before later e es → Counted (locks_of t (e ∷ es))
    by_request u None acts = absurd acts
    by_request u (Some request) acts = by_need u request (unmet p c before u request es) acts

    by_input : (i : Input) → ClientStepOn p c i before later e es → Counted (locks_of t (e ∷ es))
    by_input (input.Act index) step = by_request (record { client = c; index = index }) (before (record { client = c; index = index })) step.acts
    by_input (input.TookDown m) step = by_the_event None step.event h
    by_input (input.Flush o) step = by_the_event None step.event h
    by_input (input.Rejoin d) step = by_the_event None step.event h
    by_input i step = absurd step

  pub counted_in_runs : (p : Settings) (c : ℕ) (next : ThreadId → List Event → Option Request) (es : List Entry) → ClientRun p c next es → Counted (locks_of t es)
  counted_in_runs p c next [] run = record { held = λ l. tt; waiting = tt }
  counted_in_runs p c next (e ∷ es) run = by_input p c (next_in next es) (next_in next (e ∷ es)) e es (counted_in_runs p c next es run.0) e.input run.1
