-- A lease that an entry of a client has to give back is of a lock that the entry touches: its event is an act of the
-- lock, it takes a grant or a recall of it, or a thread of the client asks for it next.
use Rattle.std.specs.List.{list_any}
use Rattle.std.specs.Option.{option_map_or}
use Rattle.std.proofs.Common.{ℕ, ◌≡◌, ◌⊎◌, inl, inr, refl, sym, ap, ◌∙◌, Bool, true, false, cond, not, eqb, ◌&&◌}
use Rattle.std.proofs.Common.{◌||◌, is_some, is_none}
use Rattle.std.proofs.Common.{Option, Some, None, List, [], ◌∷◌, filter}
use Rattle.dso_base.specs.declared.journal.Entry.{Entry}
use Rattle.dso_base.specs.declared.journal.Input.{Input}
use Rattle.dso_base.specs.declared.journal.Input.TheVariants.{TookDown}
use Rattle.dso_base.specs.declared.lock.Level.TheVariants.{Write}
use Rattle.dso_base.specs.declared.lock.LockName.{LockName}
use Rattle.dso_base.specs.declared.lock.LockName.TheVariants.{Mon}
use Rattle.dso_base.specs.declared.lock.ThreadId.{ThreadId}
use Rattle.dso_base.specs.declared.message.Down.TheVariants as down
use Rattle.dso_base.specs.declared.request.Event.{Event}
use Rattle.dso_base.specs.declared.request.Event.TheVariants.{Act, Lost}
use Rattle.dso_base.specs.declared.request.Reply.{Reply}
use Rattle.dso_base.specs.declared.request.Reply.TheVariants.{Done}
use Rattle.dso_base.specs.declared.request.Request.{Request}
use Rattle.dso_base.specs.declared.request.Request.TheVariants.{Enter, Exit, Wait, Resume}
use Rattle.dso_base.specs.Following.{is_thread}
use Rattle.dso_base.specs.Naming.{request_names, event_names}
use Rattle.dso_plain.specs.KeyTests.{is_lock}
use Rattle.dso_plain.specs.State.{Hold}
use Rattle.dso_plain.specs.After.{entered, exited}
use Rattle.dso_plain.proofs.keys.SameKeys.{same_lock, same_thread, number_self}
use Rattle.dso_law.specs.declared.readings.LockStanding.{LockStanding}
use Rattle.dso_law.specs.Settings.{Settings, threads_of}
use Rattle.dso_law.specs.Entries.{unsent, by_event, by_taken_down}
use Rattle.dso_law.specs.Threads.{Held, Locks, Waiting, hold_in, with_hold, resumed, locks_by, locks_after, locks_of}
use Rattle.dso_law.specs.Threads.{hold_of}
use Rattle.dso_law.specs.Leases.{standing_down, standing, leased, since_grant, enters, entered_by, is_entered}
use Rattle.dso_law.specs.Leases.{recalled_by, is_recalled}
use Rattle.dso_law.specs.Leases.{insert_lock, is_lock_before, granted_by, granted, leased_locks}
use Rattle.dso_law.specs.Closing.{wants_write, is_read, awaits_write, is_closing, is_free, is_lease_due, due}
use Rattle.dso_law.specs.ClientWaiters.{is_marked}
use Rattle.dso_law.specs.ClientRun.{ClientRun, next_in}
use Rattle.dso_law.proofs.client.ClientLaws.{holds_after}
use Rattle.dso_law.proofs.runs.OwnRequests.{same_any}
use Rattle.dso_law.proofs.runs.Quiet.{nothing_is_due}
use Rattle.dso_law.proofs.client.ClientLaws.{lock_either_way}
use Rattle.dso_lookup.proofs.Tests.{both, left_holds, right_holds}
use Rattle.dso_legal.proofs.leases.ClientLeases.{neither}
use Rattle.dso_legal.proofs.leases.Holding.{isnt_so}
use Rattle.dso_legal.proofs.leases.LeaseSteps.{unless_true}
use Rattle.dso_gc_law.proofs.leases.LocksNamed.{request_is_of, asks_of, event_is_of, takes_of, asker_of_monitor}
use Rattle.dso_gc_law.proofs.leases.LocksNamed.{event_of_monitor}
use Rattle.dso_gc_law.proofs.leases.LocksNamed.{input_names, input_of_monitor, OneOf, one_of}

-- ---- what an entry that isn't of the lock leaves alone

module _ (l : LockName) where
  -- a lock that is put in beside it
  inserted : (k : LockName) (locks : List LockName) → is_lock l k ≡ false
      → list_any (is_lock l) (insert_lock k locks) ≡ list_any (is_lock l) locks
  inserted k [] other = ap (λ b. b || false) other
  inserted k (first ∷ rest) other = by (is_lock k first) (is_lock_before k first) (inserted k rest other)
    where
      by : (a b : Bool) → list_any (is_lock l) (insert_lock k rest) ≡ list_any (is_lock l) rest
          → list_any (is_lock l) (cond a (first ∷ rest) (cond b (k ∷ first ∷ rest) (first ∷ insert_lock k rest))) ≡
          (is_lock l first || list_any (is_lock l) rest)
      by true b later = refl
      by false true later = ap (λ t. t || (is_lock l first || list_any (is_lock l) rest)) other
      by false false later = ap (λ t. is_lock l first || t) later

  -- it was granted before, or wasn't
  same_granted : (i : Input) (locks : List LockName) → takes_of l i ≡ false
      → list_any (is_lock l) (by_taken_down granted_by i locks) ≡ list_any (is_lock l) locks
  same_granted (TookDown (down.Grant k level)) locks other = inserted k locks other
  same_granted (TookDown m) locks other = refl
  same_granted i locks other = refl

  -- it stands with the client as it did
  same_lease : (i : Input) (s : LockStanding) → takes_of l i ≡ false → by_taken_down (standing_down l) i s ≡ s
  same_lease (TookDown (down.Grant k level)) s other = unless_true (is_lock l k)
      (record { lease = Some level; is_asked = false }) s other
  same_lease (TookDown m) s other = refl
  same_lease i s other = refl

  -- whether it was entered since its grant
  same_entry : (i : Input) (b : Bool) → takes_of l i ≡ false → by_taken_down (since_grant l) i b ≡ b
  same_entry (TookDown (down.Grant k level)) b other = unless_true (is_lock l k) false b other
  same_entry (TookDown m) b other = refl
  same_entry i b other = refl

  -- whether it was recalled since
  same_recall : (i : Input) (b : Bool) → takes_of l i ≡ false → by_taken_down (recalled_by l) i b ≡ b
  same_recall (TookDown (down.Grant k level)) b other = unless_true (is_lock l k) false b other
  same_recall (TookDown (down.Recall k)) b other = ap (λ t. t || b) other
  same_recall (TookDown m) b other = refl
  same_recall i b other = refl

  -- an act of another lock doesn't enter it
  enters_other : (request : Request) (reply : Reply) → request_is_of l request ≡ false → enters l request reply ≡ false
  enters_other (Enter k level) Done other = other
  enters_other (Resume k) Done other = other
  enters_other request reply other = refl

  -- so whether it was entered is left
  same_entered : (event : Option Event) (b : Bool) → event_is_of l event ≡ false → by_event (entered_by l) event b ≡ b
  same_entered None b other = refl
  same_entered (Some (Act thread request reply woken)) b other = ap (λ t. t || b) (enters_other request reply other)
  same_entered (Some (Lost client)) b other = refl

  -- nor changes how it is held
  with_other : (k : LockName) (hold : Option Hold) (holds : List Held) → is_lock l k ≡ false
      → hold_in l (with_hold k hold holds) ≡ hold_in l holds
  with_other k hold holds other = holds_after k l hold holds ∙ unless_true (is_lock k l) hold (hold_in l holds)
      (lock_either_way k l ∙ other)

  -- a thread that goes on at another lock
  resumed_other : (k : LockName) (waiting : Option Waiting) (locks : Locks) → is_lock l k ≡ false
      → hold_in l (resumed k waiting locks).holds ≡ hold_in l locks.holds
  resumed_other k None locks other = refl
  resumed_other k (Some waiting) locks other = with_other k (Some (record { level = Write; count = waiting.count }))
      locks.holds other

  -- an act of another lock
  held_by_other : (request : Request) (reply : Reply) (locks : Locks) → request_is_of l request ≡ false
      → hold_in l (locks_by request reply locks).holds ≡ hold_in l locks.holds
  held_by_other (Enter k level) Done locks other = with_other k (entered level (hold_in k locks.holds)) locks.holds
      other
  held_by_other (Exit k) Done locks other = with_other k (exited (hold_in k locks.holds)) locks.holds other
  held_by_other (Wait k) Done locks other = with_other k None locks.holds other
  held_by_other (Resume k) Done locks other = resumed_other k locks.waiting locks other
  held_by_other request reply locks other = refl

  -- so each thread holds it as before
  same_held : (t : ThreadId) (event : Option Event) (locks : Locks) → event_is_of l event ≡ false
      → hold_in l (by_event (locks_after t) event locks).holds ≡ hold_in l locks.holds
  same_held t None locks other = refl
  same_held t (Some (Act thread request reply woken)) locks other = by (is_thread t thread)
    where
      by : (b : Bool) → hold_in l (cond b (locks_by request reply locks) locks).holds ≡ hold_in l locks.holds
      by true = held_by_other request reply locks other
      by false = refl
  same_held t (Some (Lost client)) locks other = refl

  -- ---- a lock of a part of a list

  -- it passes the test, and is in the list
  of_part : (test : LockName → Bool) (locks : List LockName) → list_any (is_lock l) (filter test locks) ≡ true
      → (test l ≡ true) × (list_any (is_lock l) locks ≡ true)
  of_part test [] is = absurd (cc is)
  of_part test (k ∷ locks) is = by (test k) refl is (of_part test locks)
    where
      there : (a b : Bool) → is_lock l k ≡ a → test k ≡ true → (a || list_any (is_lock l) (filter test locks)) ≡ true
          → (list_any (is_lock l) (filter test locks) ≡ true → (test l ≡ true) × (list_any (is_lock l) locks ≡ true))
          → (test l ≡ true) × ((a || list_any (is_lock l) locks) ≡ true)
      there true b same passes is later = (ap test (sym (same_lock l k same)) ∙ passes, refl)
      there false b other passes is later = later is

      by : (b : Bool) → test k ≡ b → list_any (is_lock l) (cond b (k ∷ filter test locks) (filter test locks)) ≡ true
          → (list_any (is_lock l) (filter test locks) ≡ true → (test l ≡ true) × (list_any (is_lock l) locks ≡ true))
          → (test l ≡ true) × ((is_lock l k || list_any (is_lock l) locks) ≡ true)
      by true passes is later = there (is_lock l k) true refl passes is later
      by false fails is later = let rest = later is in
          (rest.0, right_holds (is_lock l k) (list_any (is_lock l) locks) rest.1)

  -- and one of the list that passes it is in the part
  in_part : (test : LockName → Bool) (locks : List LockName) → test l ≡ true → list_any (is_lock l) locks ≡ true
      → list_any (is_lock l) (filter test locks) ≡ true
  in_part test [] passes is = absurd (cc is)
  in_part test (k ∷ locks) passes is = by (is_lock l k) (test k) refl refl is (in_part test locks passes)
    where
      by : (a b : Bool) → is_lock l k ≡ a → test k ≡ b → (a || list_any (is_lock l) locks) ≡ true
          → (list_any (is_lock l) locks ≡ true → list_any (is_lock l) (filter test locks) ≡ true)
          → list_any (is_lock l) (cond b (k ∷ filter test locks) (filter test locks)) ≡ true
      by true true same kept is later = ap (λ t. t || list_any (is_lock l) (filter test locks)) same
      by true false same fails is later = absurd (cc (sym fails ∙ ap test (same_lock l k same) ∙ passes))
      by false true other kept is later = ap (λ t. t || list_any (is_lock l) (filter test locks)) other ∙ later is
      by false false other fails is later = later is

-- ---- which locks are due

-- who awaits a lock asks for it
awaits_asks : (l : LockName) (held marked : Bool) (request : Option Request)
    → (held && wants_write l marked request) ≡ true → asks_of l request ≡ true
awaits_asks l held marked None is = absurd (cc (sym (both held false is).1))
awaits_asks l held marked (Some (Enter k Write)) is = (both held (is_lock l k) is).1
awaits_asks l held marked (Some (Resume k)) is = (both (is_lock l k) marked (both held (is_lock l k && marked) is).1).0
awaits_asks l held marked (Some request) is = absurd (cc (sym (both held false is).1))

-- The entry touches the lock: its event is an act of it, it takes a grant or a recall of it, or a thread of the
-- client asks for it then, where the next requests are as said.
abbrev pub Touches : Settings → ℕ → (ThreadId → Option Request) → LockName → Entry → Type 0
Touches p c later l e = (event_is_of l e.event ≡ true)
    ⊎ ((takes_of l e.input ≡ true) ⊎ OneOf (threads_of p c) (λ t. asks_of l (later t)))

module _ (p : Settings) (c : ℕ) (l : LockName) where
  -- what it is for a lease to be due
  record IsDue (next : ThreadId → Option Request) (its : List Entry) : Type 0 where
    there : list_any (is_lock l) (granted its) ≡ true
    lease : is_some (leased l its) ≡ true
    closing : is_closing p c next l its ≡ true
    entered_once : is_entered l its ≡ true
    free : is_free p c next l its ≡ true

  -- so where the lock is among those that are due
  is_due : (next : ThreadId → Option Request) (its : List Entry) → list_any (is_lock l) (due p c next its) ≡ true
      → IsDue next its
  is_due next its is =
      let outer = of_part l (λ k. is_lease_due p c next k its) (leased_locks its) is in
      let inner = of_part l (λ k. is_some (leased k its)) (granted its) outer.1 in
      let tests = both (is_closing p c next l its) (is_entered l its && is_free p c next l its) outer.0 in
      let rest = both (is_entered l its) (is_free p c next l its) tests.1 in
      record { there = inner.1; lease = inner.0; closing = tests.0; entered_once = rest.0; free = rest.1 }

  -- three tests that hold
  all_hold : (a b d : Bool) → a ≡ true → b ≡ true → d ≡ true → (a && (b && d)) ≡ true
  all_hold true true d x y z = z
  all_hold true false d x y z = absurd (cc y)
  all_hold false b d x y z = absurd (cc x)

  -- and the other way round
  due_is : (next : ThreadId → Option Request) (its : List Entry) → IsDue next its
      → list_any (is_lock l) (due p c next its) ≡ true
  due_is next its h = in_part l (λ k. is_lease_due p c next k its) (leased_locks its)
      (all_hold (is_closing p c next l its) (is_entered l its) (is_free p c next l its) h.closing h.entered_once
      h.free)
      (in_part l (λ k. is_some (leased k its)) (granted its) h.lease h.there)

module _ (p : Settings) (c : ℕ) (before later : ThreadId → Option Request) (e : Entry) (es : List Entry)
    (l : LockName) where
  -- where nobody awaits it, a lock that is closing is recalled
  recalled : (a b d : Bool) → d ≡ false → (a || (b && d)) ≡ true → a ≡ true
  recalled true b d none is = refl
  recalled false true d none is = absurd (cc (sym none ∙ is))
  recalled false false d none is = absurd (cc is)

  -- an entry that touches it in no way finds it due before
  due_before : event_is_of l e.event ≡ false → takes_of l e.input ≡ false
      → list_any (awaits_write p c later l (unsent e ∷ es)) (threads_of p c) ≡ false
      → IsDue p c l later (unsent e ∷ es) → IsDue p c l before es
  due_before no_act no_message none h =
      let was_recalled : is_recalled l es ≡ true = sym (same_recall l e.input (is_recalled l es) no_message)
      ∙ recalled (is_recalled l (unsent e ∷ es)) (is_read (leased l (unsent e ∷ es)))
      (list_any (awaits_write p c later l (unsent e ∷ es)) (threads_of p c)) none h.closing in
      record {
        there = sym (same_granted l e.input (granted es) no_message) ∙ h.there;
        lease = ap (λ (s : LockStanding). is_some s.lease) (sym (same_lease l e.input (standing l es) no_message))
            ∙ h.lease;
        closing = left_holds (is_recalled l es) (is_read (leased l es) && list_any (awaits_write p c before l es)
            (threads_of p c)) was_recalled;
        entered_once = sym (same_entry l e.input (is_entered l es) no_message)
            ∙ sym (same_entered l e.event (by_taken_down (since_grant l) e.input (is_entered l es)) no_act)
            ∙ h.entered_once;
        free = ap not (same_any c (λ t. not (is_none (hold_of t l es)))
            (λ t. not (is_none (hold_of t l (unsent e ∷ es))))
            (λ t own. ap (λ (hold : Option Hold). not (is_none hold))
            (sym (same_held l t e.event (locks_of t es) no_act))) p.threads) ∙ h.free;
      }

  -- so what is due after the entry, where nothing was before, it touches
  pub due_touched : due p c before es ≡ [] → list_any (is_lock l) (due p c later (unsent e ∷ es)) ≡ true
      → Touches p c later l e
  due_touched quiet is = by (event_is_of l e.event) (takes_of l e.input)
      (list_any (awaits_write p c later l (unsent e ∷ es)) (threads_of p c)) refl refl refl
    where
      by : (a b d : Bool) → event_is_of l e.event ≡ a → takes_of l e.input ≡ b
          → list_any (awaits_write p c later l (unsent e ∷ es)) (threads_of p c) ≡ d → Touches p c later l e
      by true b d acts takes awaits = inl acts
      by false true d acts takes awaits = inr (inl takes)
      by false false true acts takes awaits =
          let one : OneOf (threads_of p c) (awaits_write p c later l (unsent e ∷ es)) = one_of (threads_of p c)
          (awaits_write p c later l (unsent e ∷ es)) awaits in
          inr (inr (record {
            thread = one.thread;
            listed = one.listed;
            passes = awaits_asks l (is_none (hold_of one.thread l (unsent e ∷ es)))
                (is_marked one.thread (unsent e ∷ es)) (later one.thread) one.passes;
          }))
      by false false false acts takes awaits =
          let was : list_any (is_lock l) (due p c before es) ≡ true = due_is p c l before es
          (due_before acts takes awaits (is_due p c l later (unsent e ∷ es) is)) in
          absurd (cc (sym was ∙ ap (list_any (is_lock l)) quiet))

-- ---- what is due nobody holds

-- a thread of a list that passes no test that none passes
none_of : (test : ThreadId → Bool) (t : ThreadId) (c : ℕ) (threads : List ThreadId)
    → list_any test (filter (λ u. eqb u.client c) threads) ≡ false → t.client ≡ c
    → list_any (is_thread t) threads ≡ true → test t ≡ false
none_of test t c [] none its is = absurd (cc is)
none_of test t c (u ∷ threads) none its is = by (is_thread t u) refl is (eqb u.client c) refl none
    (λ later rest. none_of test t c threads rest its later)
  where
    own : is_thread t u ≡ true → eqb u.client c ≡ true
    own same = ap (λ (v : ThreadId). eqb v.client c) (same_thread t u same) ∙ ap (λ n. eqb n c) its ∙ number_self c

    by : (a : Bool) → is_thread t u ≡ a → (a || list_any (is_thread t) threads) ≡ true → (b : Bool)
        → eqb u.client c ≡ b
        → list_any test (cond b (u ∷ filter (λ u. eqb u.client c) threads) (filter (λ u. eqb u.client c) threads))
        ≡ false
        → (list_any (is_thread t) threads ≡ true → list_any test (filter (λ u. eqb u.client c) threads) ≡ false
        → test t ≡ false) → test t ≡ false
    by true same is true mine none later = ap test (sym (same_thread t u same))
        ∙ (neither (test u) (list_any test (filter (λ u. eqb u.client c) threads)) none).0
    by true same is false other none later = absurd (cc (sym other ∙ own same))
    by false apart is true mine none later = later is
        (neither (test u) (list_any test (filter (λ u. eqb u.client c) threads)) none).1
    by false apart is false other none later = later is none

-- a lock whose lease is to be given back is held by no thread of the client
pub due_is_free : (p : Settings) (c : ℕ) (next : ThreadId → Option Request) (l : LockName) (its : List Entry)
    → list_any (is_lock l) (due p c next its) ≡ true
    → (t : ThreadId) → t.client ≡ c → list_any (is_thread t) p.threads ≡ true → hold_of t l its ≡ None
due_is_free p c next l its is t own listed = no_hold (hold_of t l its)
    (none_of (λ u. not (is_none (hold_of u l its))) t c p.threads
    (isnt_so (list_any (λ u. not (is_none (hold_of u l its))) (threads_of p c)) (is_due p c l next its is).free) own
    listed)
  where
    no_hold : (hold : Option Hold) → not (is_none hold) ≡ false → hold ≡ None
    no_hold None is = refl
    no_hold (Some hold) is = absurd (cc is)

-- a lock whose lease is to be given back has a lease
pub due_is_leased : (p : Settings) (c : ℕ) (next : ThreadId → Option Request) (l : LockName) (its : List Entry)
    → list_any (is_lock l) (due p c next its) ≡ true
    → is_some (leased l its) ≡ true
due_is_leased p c next l its is = (is_due p c l next its is).lease

-- ---- in a run

-- Due is touched: in a run of a client a lease that is due after an entry, before it sends, is of a lock that the
-- entry touches.
abbrev pub DueIsTouched : Type 0
DueIsTouched = (p : Settings) (c : ℕ) (next : ThreadId → List Event → Option Request) (e : Entry) (es : List Entry)
    → ClientRun p c next (e ∷ es)
    → (l : LockName) → list_any (is_lock l) (due p c (next_in next (e ∷ es)) (unsent e ∷ es)) ≡ true
    → Touches p c (next_in next (e ∷ es)) l e

pub due_is_touched : DueIsTouched
due_is_touched p c next e es run l is = due_touched p c (next_in next es) (next_in next (e ∷ es)) e es l
    (nothing_is_due p c next es run.0) is

-- The entry names the object: its event does, the message that it takes, or the next request of a thread of the
-- client then.
abbrev pub Names : Settings → ℕ → (ThreadId → Option Request) → Entry → ℕ → Type 0
Names p c later e o = (option_map_or (λ event. event_names event o) e.event false ≡ true)
    ⊎ ((input_names e.input o ≡ true) ⊎ OneOf (threads_of p c) (λ t. option_map_or (λ r. request_names r o)
    (later t) false))

-- an entry that touches a monitor names its object
pub monitor_named : (p : Settings) (c : ℕ) (later : ThreadId → Option Request) (e : Entry) (o : ℕ)
    → Touches p c later (Mon o) e → Names p c later e o
monitor_named p c later e o (inl acts) = inl (event_of_monitor o e.event acts)
monitor_named p c later e o (inr (inl takes)) = inr (inl (input_of_monitor o e.input takes))
monitor_named p c later e o (inr (inr one)) = inr
    (inr (record {
      thread = one.thread;
      listed = one.listed;
      passes = asker_of_monitor o
          (later one.thread) one.passes;
    }))
