-- A thread of a sound program doesn't hold the lock that it waits on.
use Rattle.std.specs.List.{list_any}
use Rattle.std.proofs.Common.{◌≡◌, ◌≢◌, refl, sym, ◌∙◌, ap, subst, Bool, true, false, cond, ◌||◌, Option, Some, None, List, [], ◌∷◌, ◌++◌}
use Rattle.dso_base.specs.declared.journal.Entry.{Entry}
use Rattle.dso_base.specs.declared.journal.Node.TheVariants.{Client}
use Rattle.dso_base.specs.declared.lock.LockName.{LockName}
use Rattle.dso_base.specs.declared.lock.ThreadId.{ThreadId}
use Rattle.dso_base.specs.declared.request.Event.{Event}
use Rattle.dso_base.specs.declared.request.Event.TheVariants.{Act}
use Rattle.dso_base.specs.declared.request.Reply.{Reply}
use Rattle.dso_base.specs.declared.request.Reply.TheVariants.{Done}
use Rattle.dso_base.specs.declared.request.Request.{Request}
use Rattle.dso_base.specs.declared.request.Request.TheVariants.{Enter, Exit, Wait, Resume}
use Rattle.dso_base.specs.Following.{is_thread, FollowsProgram, Listed}
use Rattle.dso_plain.proofs.keys.SameKeys.{thread_self}
use Rattle.dso_law.specs.Entries.{entries_of, events_in}
use Rattle.dso_law.specs.FitsDown.{IsWaitingOn}
use Rattle.dso_law.specs.Replies.{woken_by}
use Rattle.dso_law.specs.Settings.{Settings}
use Rattle.dso_law.specs.Threads.{Locks, Waiting, hold_in, resumed, locks_by, locks_of}
use Rattle.dso_legal.specs.Lawful.{next_after, AllFollow}
use Rattle.dso_legal.specs.PendingBlocks.{no_locks, locks_through}
use Rattle.dso_legal.specs.SoundProgram.{event_tells, IsOfWaiter, WaitsAreHeld, KeepsTo, AsksSoundly}
use Rattle.dso_legal.proofs.blocks.OpenLocks.{set_there}
use Rattle.dso_legal.proofs.blocks.OwnActs.{IsNextAct, act_follows, act_waits, holds_along, own_acts}
use Rattle.dso_legal.proofs.blocks.SameLocks.{same_locks, locks_one_more}

-- a thread with these locks doesn't hold the one that it waits on
abbrev pub HoldsApart : Locks → Type 0
HoldsApart locks = (l : LockName) → IsWaitingOn l locks.waiting → hold_in l locks.holds ≡ None

-- who waits on a lock waits
pub does_wait : (l : LockName) (waiting : Option Waiting) → IsWaitingOn l waiting → waiting ≢ None
does_wait l None waits none = waits
does_wait l (Some waiting) waits none = cc none

-- a thread that goes on waits no more
resumed_apart : (k : LockName) (waiting : Option Waiting) (locks : Locks) → HoldsApart locks → HoldsApart (resumed k waiting locks)
resumed_apart k None locks apart = apart
resumed_apart k (Some waiting) locks apart = λ l waits. absurd waits

-- an act of a thread that, while it waits, does nothing but tick, time out and resume
apart_by : (request : Request) (reply : Reply) (locks : Locks) → (locks.waiting ≢ None → IsOfWaiter request) → HoldsApart locks → HoldsApart (locks_by request reply locks)
apart_by (Enter k level) Done locks waits apart = λ l waiting. absurd (waits (does_wait l locks.waiting waiting))
apart_by (Exit k) Done locks waits apart = λ l waiting. absurd (waits (does_wait l locks.waiting waiting))
apart_by (Wait k) Done locks waits apart = λ l same. subst (λ x. hold_in x (locks_by (Wait k) Done locks).holds ≡ None) same (set_there k None locks.holds)
apart_by (Resume k) Done locks waits apart = resumed_apart k locks.waiting locks apart
apart_by request reply locks waits apart = apart

-- what isn't found among events with one more isn't found among them
none_before : (test : Event → Bool) (events : List Event) (event : Event) → list_any test (events ++ event ∷ []) ≡ false → list_any test events ≡ false
none_before test [] event none = refl
none_before test (first ∷ events) event none = by (test first) none (none_before test events event)
  where
    by : (b : Bool) → (b || list_any test (events ++ event ∷ [])) ≡ false → (list_any test (events ++ event ∷ []) ≡ false → list_any test events ≡ false) → (b || list_any test events) ≡ false
    by true none later = none
    by false none later = later none

module _ (p : Settings) (next : ThreadId → List Event → Option Request) (sound : AsksSoundly p.shape next) (t : ThreadId) where
  -- the thread's events follow the program, wait only with the lock held, and leave it no hold of the lock that it waits on
  -- where none told of object 0
  record KeepsApart (events : List Event) : Type 0 where
    follows : FollowsProgram next (Listed next) t events
    waits : WaitsAreHeld t events no_locks
    acts : list_any (event_tells 0) events ≡ false → HoldsApart (locks_through t events no_locks)

  module _ (e : Entry) (es : List Entry) (it : IsNextAct p t.client (next_after next es) e (entries_of (Client t.client) es)) (is : it.thread ≡ t) where
    abbrev before : List Event
    before = events_in t (entries_of (Client t.client) es)

    abbrev act : Event
    act = Act it.thread it.request it.reply (woken_by it.request it.reply (entries_of (Client t.client) es))

    -- the locks after the act
    locks_now : locks_through t (before ++ act ∷ []) no_locks ≡ locks_by it.request it.reply (locks_through t before no_locks)
    locks_now = locks_one_more t before act no_locks
        ∙ ap (λ b. cond b (locks_by it.request it.reply (locks_through t before no_locks)) (locks_through t before no_locks)) (ap (is_thread t) is ∙ thread_self t)

    goes_on : KeepsApart before → KeepsApart (before ++ act ∷ [])
    goes_on so_far = record {
      follows = act_follows p next t e es it is so_far.follows;
      waits = act_waits p next t e es it is so_far.waits;
      acts = λ untold.
          let told_none : list_any (event_tells 0) before ≡ false = none_before (event_tells 0) before act untold in
          let asked : next t before ≡ Some it.request = subst (λ u. next_after next es u ≡ Some it.request) is it.asked in
          let keeps : KeepsTo p.shape t before it.request = sound.keeps t before it.request (own_acts t (entries_of (Client t.client) es)) told_none so_far.waits so_far.follows asked in
          subst HoldsApart (sym locks_now) (apart_by it.request it.reply (locks_through t before no_locks) keeps.waits (so_far.acts told_none));
    }

  keeps_apart : (es : List Entry) → AllFollow p next es → KeepsApart (events_in t (entries_of (Client t.client) es))
  keeps_apart es follow = holds_along p next t KeepsApart goes_on (record { follows = tt; waits = tt; acts = λ untold l waits. absurd waits }) es follow

  -- Where nothing told it of object 0, the thread doesn't hold the lock that it waits on.
  pub waits_apart : (es : List Entry) → AllFollow p next es → list_any (event_tells 0) (events_in t (entries_of (Client t.client) es)) ≡ false → HoldsApart (locks_of t (entries_of (Client t.client) es))
  waits_apart es follow untold = subst HoldsApart (sym (same_locks t (entries_of (Client t.client) es))) ((keeps_apart es follow).acts untold)
