-- A thread's monitors and waits in the plain state are those that its events make of its locks.
use Rattle.std.proofs.Common.{ℕ, ◌≡◌, ◌≢◌, inl, inr, refl, sym, ◌∙◌, ap, subst, Bool, true, false, cond, eqb, ◌&&◌, Option, Some, None, List, [], ◌∷◌}
use Rattle.std.proofs.lemmas.Bool.Decides.{eqb_tells}
use Rattle.dso_base.specs.declared.lock.Level.TheVariants.{Write}
use Rattle.dso_base.specs.declared.lock.LockName.{LockName}
use Rattle.dso_base.specs.declared.lock.LockName.TheVariants.{Mon, Name}
use Rattle.dso_base.specs.declared.lock.ThreadId.{ThreadId}
use Rattle.dso_base.specs.declared.request.Event.{Event}
use Rattle.dso_base.specs.declared.request.Event.TheVariants.{Act, Lost}
use Rattle.dso_base.specs.declared.request.Reply.{Reply}
use Rattle.dso_base.specs.declared.request.Reply.TheVariants.{Done, Made, Val}
use Rattle.dso_base.specs.declared.request.Request.{Request}
use Rattle.dso_base.specs.declared.request.Request.TheVariants.{New, Get, Put, Enter, Exit, Wait, Timeout, Resume, Notify, NotifyAll, Print, End}
use Rattle.dso_base.specs.declared.shape.Shape.{Shape}
use Rattle.dso_plain.specs.KeyTests.{is_lock, is_place}
use Rattle.dso_lookup.specs.Maps.{writes, or_old, written}
use Rattle.dso_plain.specs.State.{Hold, PlainState, is_shared, hold_on_guard}
use Rattle.dso_plain.specs.Possible.{MayButMarks, IsPossibleButMarks}
use Rattle.dso_plain.specs.After as plain
use Rattle.dso_plain.specs.After.{nothing, after, apply, change_of, read, read_shared, put, waits, resumes, notifies, loses, entered, exited, count_of}
use Rattle.dso_plain.specs.History.{RunsButMarks, end_of, is_act_of, events_of}
use Rattle.dso_plain.specs.Touches.{AreActsOf}
use Rattle.dso_plain.proofs.keys.SameKeys.{number_self, same_thread, thread_self, same_lock}
use Rattle.dso_plain.proofs.independence.RunsSwap.{quiet_act}
use Rattle.dso_law.specs.Threads.{Locks, Waiting, hold_in, with_hold, waiting_on, resumed, locks_by, locks_after}
use Rattle.dso_law.proofs.client.ClientLaws.{holds_after}
use Rattle.dso_base.specs.declared.value.Value.{Value}
use Rattle.dso_base.specs.Following.{is_thread}
use Rattle.dso_legal.proofs.leases.LeaseSteps.{if_true, no_both}
use Rattle.dso_legal.specs.PendingBlocks.{locks_through}
use Rattle.dso_legal.specs.Works.{wait_count, HaveLocks}

-- a test of two numbers is the same either way
pub either_way : (a b : ℕ) → eqb a b ≡ eqb b a
either_way a b = elim (eqb_tells a b) [
  | inl h ↦ h.0 ∙ sym (ap (λ n. eqb b n) h.1 ∙ number_self b)
  | inr h ↦ elim (eqb_tells b a) [
    | inl g ↦ absurd (h.1 (sym g.1))
    | inr g ↦ h.0 ∙ sym g.0
  ]
]

-- and so is one of two locks
pub lock_either_way : (l k : LockName) → is_lock l k ≡ is_lock k l
lock_either_way (Mon o) (Mon p) = either_way p o
lock_either_way (Name n) (Name m) = either_way m n
lock_either_way (Mon o) (Name m) = refl
lock_either_way (Name n) (Mon p) = refl

-- what is written at a place is there, under a test
at_place : {V : Type 0} (a b : Bool) (v old : V) → b ≡ true → or_old (cond (a && b) (Some v) None) old ≡ cond a v old
at_place true true v old e = refl
at_place false true v old e = refl
at_place a false v old e = absurd (cc e)

-- what is written at the thread's place of a lock
own_written : {V : Type 0} (t : ThreadId) (l k : LockName) (v : V) (f : LockName × ThreadId → V) → written (writes (is_place l t) (λ _. v)) f (k, t) ≡ cond (is_lock l k) v (f (k, t))
own_written t l k v f = at_place (is_lock l k) (is_thread t t) v (f (k, t)) (thread_self t)

-- there is a count exactly where the thread waits on the lock
waits_there : (l : LockName) (waiting : Waiting) → wait_count l (Some waiting) ≢ None → (is_lock l waiting.lock ≡ true)
waits_there l waiting there = by (is_lock l waiting.lock) refl there
  where
    by : (b : Bool) → is_lock l waiting.lock ≡ b → cond b (Some waiting.count) None ≢ None → is_lock l waiting.lock ≡ true
    by true e there = e
    by false e there = absurd (there refl)

-- where the parts of the thread are the same, so are its locks
locks_kept : (t : ThreadId) (locks : Locks) (s r : PlainState) → HaveLocks t locks s → ((l : LockName) → r.monitors (l, t) ≡ s.monitors (l, t)) → ((l : LockName) → r.asleep (l, t) ≡ s.asleep (l, t)) → HaveLocks t locks r
locks_kept t locks s r have monitors asleep = record { holds = λ l. monitors l ∙ have.holds l; waits = λ l. asleep l ∙ have.waits l }

module _ (shape : Shape) (t : ThreadId) (locks : Locks) (s : PlainState) (have : HaveLocks t locks s) where
  -- a lock held otherwise
  holds_changed : (l k : LockName) (hold hold' : Option Hold) → hold ≡ hold' → written (writes (is_place l t) (λ _. hold)) s.monitors (k, t) ≡ hold_in k (with_hold l hold' locks.holds)
  holds_changed l k hold hold' e = own_written t l k hold s.monitors ∙ (λ i. cond (is_lock l k) (e i) (have.holds k i)) ∙ sym (holds_after l k hold' locks.holds)

  -- an act that leaves the waits
  hold_set : (l : LockName) (hold hold' : Option Hold) → hold ≡ hold' → HaveLocks t (record locks { holds = with_hold l hold' locks.holds }) (apply (record nothing { monitors = writes (is_place l t) (λ key. hold) }) s)
  hold_set l hold hold' e = record { holds = λ k. holds_changed l k hold hold' e; waits = have.waits }

  -- a wait, of a thread that waits on nothing
  wait_set : (l : LockName) → ((k : LockName) → s.asleep (k, t) ≡ None) → HaveLocks t (waiting_on l locks) (apply (waits t l s) s)
  wait_set l awake = record {
    holds = λ k. holds_changed l k None None refl;
    waits = λ k. own_written t l k (Some (count_of (s.monitors (l, t)))) s.asleep ∙ (λ i. cond (lock_either_way l k i) (Some (count_of (have.holds l i))) (awake k i));
  }

  -- a thread that goes on with a lock
  resume_set : (l : LockName) (waiting : Option Waiting) → locks.waiting ≡ waiting → s.asleep (l, t) ≢ None → HaveLocks t (resumed l waiting locks) (apply (resumes t l s) s)
  resume_set l None is there = absurd (there (have.waits l ∙ ap (wait_count l) is))
  resume_set l (Some waiting) is there = record {
    holds = λ k. holds_changed l k (plain.resumed (s.asleep (l, t))) (Some (record { level = Write; count = waiting.count })) (ap plain.resumed count);
    waits = λ k. own_written t l k None s.asleep ∙ ap (cond (is_lock l k) None) (waits k) ∙ gone k (is_lock l k) refl;
  }
    where
      waits : (k : LockName) → s.asleep (k, t) ≡ wait_count k (Some waiting)
      waits k = have.waits k ∙ ap (wait_count k) is

      same : is_lock l waiting.lock ≡ true
      same = waits_there l waiting (λ none. there (waits l ∙ none))

      count : s.asleep (l, t) ≡ Some waiting.count
      count = waits l ∙ ap (λ b. cond b (Some waiting.count) None) same

      gone : (k : LockName) (b : Bool) → is_lock l k ≡ b → cond b None (wait_count k (Some waiting)) ≡ None
      gone k true e = refl
      gone k false e = ap (λ b. cond b (Some waiting.count) None) (ap (is_lock k) (same_lock l waiting.lock same) ∙ lock_either_way k l ∙ e)

  -- a read leaves them
  read_same : (o f : ℕ) (b : Bool) → HaveLocks t locks (apply (read shape t o f b s) s)
  read_same o f false = record { holds = have.holds; waits = have.waits }
  read_same o f true = by (hold_on_guard shape t o f s)
    where
      by : (hold : Option Hold) → HaveLocks t locks (apply (read_shared t o f hold s) s)
      by None = record { holds = have.holds; waits = have.waits }
      by (Some hold) = record { holds = have.holds; waits = have.waits }

  -- and so does a put
  put_same : (o f : ℕ) (v : Value) (b : Bool) → HaveLocks t locks (apply (put t o f v b s) s)
  put_same o f v true = record { holds = have.holds; waits = have.waits }
  put_same o f v false = record { holds = have.holds; waits = have.waits }

  -- and a notification
  notify_same : (l : LockName) (woken : Option ThreadId) → HaveLocks t locks (apply (notifies l woken) s)
  notify_same l None = record { holds = have.holds; waits = have.waits }
  notify_same l (Some w) = record { holds = have.holds; waits = have.waits }

  -- an act of the thread makes of its monitors and waits what it makes of its locks
  own_act : (request : Request) (reply : Reply) (woken : Option ThreadId) → IsPossibleButMarks shape t request reply s → HaveLocks t (locks_by request reply locks) (apply (change_of shape t request reply woken s) s)
  own_act (Enter l level) Done woken p = hold_set l (entered level (s.monitors (l, t))) (entered level (hold_in l locks.holds)) (ap (entered level) (have.holds l))
  own_act (Exit l) Done woken p = hold_set l (exited (s.monitors (l, t))) (exited (hold_in l locks.holds)) (ap exited (have.holds l))
  own_act (Wait l) Done woken p = wait_set l p.awake
  own_act (Timeout l) Done woken p = record { holds = have.holds; waits = have.waits }
  own_act (Resume l) Done woken p = resume_set l locks.waiting refl p.answers.0
  own_act (New class n) (Made o) woken p = record { holds = have.holds; waits = have.waits }
  own_act (Get o f) (Val v) woken p = read_same o f (is_shared (s.objects o))
  own_act (Put o f v) Done woken p = put_same o f v (is_shared (s.objects o))
  own_act (Notify l) Done woken p = notify_same l woken
  own_act (NotifyAll l) Done woken p = record { holds = have.holds; waits = have.waits }
  own_act (Print v) Done woken p = record { holds = have.holds; waits = have.waits }
  own_act (End fault) Done woken p = record { holds = have.holds; waits = have.waits }
  own_act request reply woken p = record { holds = have.holds; waits = have.waits }

-- no event is a loss of the client
abbrev pub NoLossOf : ℕ → List Event → Type 0
NoLossOf c [] = Unit {0}
NoLossOf c (Act t request reply woken ∷ events) = NoLossOf c events
NoLossOf c (Lost client ∷ events) = (eqb c client ≡ false) × NoLossOf c events

-- no event is a loss
abbrev pub NoLosses : List Event → Type 0
NoLosses [] = Unit {0}
NoLosses (Act t request reply woken ∷ events) = NoLosses events
NoLosses (Lost client ∷ events) = ⊥

-- without losses there is none of the client
pub no_loss_of : (c : ℕ) (events : List Event) → NoLosses events → NoLossOf c events
no_loss_of c [] h = tt
no_loss_of c (Act t request reply woken ∷ events) h = no_loss_of c events h
no_loss_of c (Lost client ∷ events) h = absurd h

-- acts of one thread are no losses
pub own_no_losses : (t : ThreadId) (events : List Event) → AreActsOf t events → NoLosses events
own_no_losses t [] h = tt
own_no_losses t (Act u request reply woken ∷ events) h = own_no_losses t events h.1
own_no_losses t (Lost client ∷ events) h = absurd h.0

-- the events of the thread, one more of its own
own_first : (t : ThreadId) (e : Event) (events : List Event) → is_act_of t e ≡ true → events_of t (e ∷ events) ≡ e ∷ events_of t events
own_first t e events its = if_true (is_act_of t e) (e ∷ events_of t events) (events_of t events) its

-- the events of a thread that alone acts are all
pub events_of_own : (t : ThreadId) (events : List Event) → AreActsOf t events → events_of t events ≡ events
events_of_own t [] h = refl
events_of_own t (Lost client ∷ events) h = absurd h.0
events_of_own t (Act u request reply woken ∷ events) h =
    own_first t (Act u request reply woken) events (subst (λ w. is_thread t w ≡ true) (sym h.0) (thread_self t)) ∙ ap (λ rest. Act u request reply woken ∷ rest) (events_of_own t events h.1)

-- the loss of another client leaves the thread's monitors and waits
other_lost : (t : ThreadId) (client : ℕ) (locks : Locks) (s : PlainState) → eqb t.client client ≡ false → HaveLocks t locks s → HaveLocks t locks (apply (loses client) s)
other_lost t client locks s ne have = locks_kept t locks s (apply (loses client) s) have
    (λ l. ap (λ b. or_old (cond b (Some None) None) (s.monitors (l, t))) ne)
    (λ l. ap (λ b. or_old (cond b (Some None) None) (s.asleep (l, t))) ne)

-- an act of another thread leaves them
other_act : (shape : Shape) (t u : ThreadId) (request : Request) (reply : Reply) (woken : Option ThreadId) (locks : Locks) (s : PlainState) → u ≢ t → MayButMarks shape (Act u request reply woken) s → HaveLocks t locks s → HaveLocks t locks (after shape (Act u request reply woken) s)
other_act shape t u request reply woken locks s ne may have =
    let quiet = quiet_act shape u request reply woken s may in
    let other : t ≢ u = λ e. ne (sym e) in
    locks_kept t locks s (after shape (Act u request reply woken) s) have (λ l. quiet.monitors l t other) (λ l. quiet.own_waits l t other)

-- Where no event is a loss of its client, a thread's monitors and waits are those that its events make of its locks.
pub locks_of_spared : (shape : Shape) (t : ThreadId) (locks : Locks) (events : List Event) (s : PlainState) → NoLossOf t.client events → RunsButMarks shape events s → HaveLocks t locks s
    → HaveLocks t (locks_through t (events_of t events) locks) (end_of shape events s)
locks_of_spared shape t locks [] s none runs have = have
locks_of_spared shape t locks (Lost client ∷ events) s none runs have = locks_of_spared shape t locks events (after shape (Lost client) s) none.1 runs.1 (other_lost t client locks s none.0 have)
locks_of_spared shape t locks (Act u request reply woken ∷ events) s none runs have = by (is_thread t u) refl (λ locks now. locks_of_spared shape t locks events (after shape (Act u request reply woken) s) none runs.1 now)
  where
    by : (b : Bool) → is_thread t u ≡ b → ((locks : Locks) → HaveLocks t locks (after shape (Act u request reply woken) s) → HaveLocks t (locks_through t (events_of t events) locks) (end_of shape events (after shape (Act u request reply woken) s)))
        → HaveLocks t (locks_through t (cond b (Act u request reply woken ∷ events_of t events) (events_of t events)) locks) (end_of shape events (after shape (Act u request reply woken) s))
    by true e later = later (locks_after t (Act u request reply woken) locks)
        (subst (λ b. HaveLocks t (cond b (locks_by request reply locks) locks) (after shape (Act u request reply woken) s)) (sym e)
        (subst (λ w. HaveLocks t (locks_by request reply locks) (after shape (Act w request reply woken) s)) (sym (same_thread t u e))
        (own_act shape t locks s have request reply woken (subst (λ w. IsPossibleButMarks shape w request reply s) (same_thread t u e) runs.0))))
    by false e later = later locks
        (other_act shape t u request reply woken locks s (λ same. no_both (is_thread t u) (subst (λ w. is_thread t w ≡ true) (sym same) (thread_self t)) e) runs.0 have)

-- Where no event is a loss.
pub locks_of_acts : (shape : Shape) (t : ThreadId) (locks : Locks) (events : List Event) (s : PlainState) → NoLosses events → RunsButMarks shape events s → HaveLocks t locks s
    → HaveLocks t (locks_through t (events_of t events) locks) (end_of shape events s)
locks_of_acts shape t locks events s none = locks_of_spared shape t locks events s (no_loss_of t.client events none)

-- Of the thread's own events.
pub locks_of_own : (shape : Shape) (t : ThreadId) (locks : Locks) (events : List Event) (s : PlainState) → AreActsOf t events → RunsButMarks shape events s → HaveLocks t locks s
    → HaveLocks t (locks_through t events locks) (end_of shape events s)
locks_of_own shape t locks events s acts runs have = subst (λ own. HaveLocks t (locks_through t own locks) (end_of shape events s)) (events_of_own t events acts)
    (locks_of_acts shape t locks events s (own_no_losses t events acts) runs have)
