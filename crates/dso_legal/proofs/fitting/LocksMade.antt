-- Each lock that a thread holds or waits on is there, and so is each that its client asks for.
use Rattle.std.specs.List.{AllByRecursion}
use Rattle.std.proofs.Common.{ℕ, ◌<◌, ◌≡◌, ◌≢◌, refl, sym, ◌∙◌, ap, subst, Bool, true, false, cond, not, Option, Some, None, List, [], ◌∷◌}
use Rattle.dso_base.specs.declared.journal.Entry.{Entry}
use Rattle.dso_base.specs.declared.journal.Node.TheVariants.{Client}
use Rattle.dso_base.specs.declared.lock.Level.{Level}
use Rattle.dso_base.specs.declared.lock.Level.TheVariants.{Write}
use Rattle.dso_base.specs.declared.lock.LockName.{LockName}
use Rattle.dso_base.specs.declared.lock.LockName.TheVariants.{Mon, Name}
use Rattle.dso_base.specs.declared.lock.ThreadId.{ThreadId}
use Rattle.dso_base.specs.declared.request.Event.{Event}
use Rattle.dso_base.specs.declared.request.Reply.{Reply}
use Rattle.dso_base.specs.declared.request.Reply.TheVariants.{Done}
use Rattle.dso_base.specs.declared.request.Request.{Request}
use Rattle.dso_base.specs.declared.request.Request.TheVariants.{Enter, Exit, Wait, Resume}
use Rattle.dso_base.specs.declared.value.Value.TheVariants as value
use Rattle.dso_base.specs.Following.{is_thread}
use Rattle.dso_plain.specs.After.{entered, exited}
use Rattle.dso_plain.specs.KeyTests.{is_lock}
use Rattle.dso_plain.specs.State.{Hold}
use Rattle.dso_plain.proofs.keys.SameKeys.{same_thread, same_lock}
use Rattle.dso_law.specs.FitsDown.{IsWaitingOn}
use Rattle.dso_law.specs.RequestNeeds.{hold_level}
use Rattle.dso_law.specs.Replies.{monitor_reply, reply_of}
use Rattle.dso_law.specs.Settings.{Settings}
use Rattle.dso_law.specs.Entries.{entries_of, by_event, events_in}
use Rattle.dso_law.specs.Threads.{Held, Waiting, Locks, hold_in, set_hold, with_hold, resumed, locks_by, locks_after, locks_of, hold_of}
use Rattle.dso_legal.specs.Lawful.{next_after, AllFollow}
use Rattle.dso_legal.specs.SoundProgram.{AsksSoundly, GivesKnownTexts, IsToldLock}
use Rattle.dso_legal.specs.ValuesFine.{IsFine}
use Rattle.dso_legal.specs.WithinShape.{IsLockThere, StaysWithinShape}
use Rattle.dso_legal.proofs.blocks.OwnActs.{IsNextAct}
use Rattle.dso_legal.proofs.blocks.SameLocks.{same_locks}
use Rattle.dso_legal.proofs.fitting.InHand.{each_filtered, each_so}
use Rattle.dso_legal.proofs.fitting.Carried.{EventHas, AllHave}
use Rattle.dso_legal.proofs.fitting.Values.{F, V, fine_still, value_fine, Asked, what_is_asked, all_fine}

module _ (P : LockName → Type 0) where
  -- so of each lock that is held, and of the one that is waited on
  abbrev pub HoldsAre : List Held → Type 0
  HoldsAre holds = AllByRecursion (λ held. P held.lock) holds

  abbrev pub WaitIs : Option Waiting → Type 0
  WaitIs None = Unit {0}
  WaitIs (Some waiting) = P waiting.lock

  pub record LocksAre (locks : Locks) : Type 0 where
    pub holds : HoldsAre locks.holds
    pub waiting : WaitIs locks.waiting

  -- a lock that is held
  held_is : (l : LockName) (holds : List Held) → HoldsAre holds → hold_in l holds ≢ None → P l
  held_is l [] all there = absurd (there refl)
  held_is l (held ∷ holds) all there = by (is_lock l held.lock) refl there (held_is l holds all.1)
    where
      by : (b : Bool) → is_lock l held.lock ≡ b → cond b (Some held.hold) (hold_in l holds) ≢ None → (hold_in l holds ≢ None → P l) → P l
      by true is there later = subst P (same_lock l held.lock is) all.0
      by false is there later = later there

  set_are : (l : LockName) (hold : Hold) (holds : List Held) → P l → HoldsAre holds → HoldsAre (set_hold l hold holds)
  set_are l hold [] it all = (it, tt)
  set_are l hold (held ∷ holds) it all = by (is_lock l held.lock) (set_are l hold holds it all.1)
    where
      by : (b : Bool) → HoldsAre (set_hold l hold holds) → HoldsAre (cond b (record { lock = l; hold = hold } ∷ holds) (held ∷ set_hold l hold holds))
      by true later = (it, all.1)
      by false later = (all.0, later)

  with_are : (l : LockName) (hold : Option Hold) (holds : List Held) → (hold ≢ None → P l) → HoldsAre holds → HoldsAre (with_hold l hold holds)
  with_are l None holds it all = each_filtered (λ held. P held.lock) (λ held. not (is_lock l held.lock)) holds all
  with_are l (Some hold) holds it all = set_are l hold holds (it (λ none. cc none)) all

  -- a hold that is left was there
  was_held : (hold : Option Hold) → exited hold ≢ None → hold ≢ None
  was_held None left = absurd (left refl)
  was_held (Some hold) left = λ none. cc none

  resumed_are : (l : LockName) (waiting : Option Waiting) (locks : Locks) → WaitIs waiting → IsWaitingOn l waiting → LocksAre locks → LocksAre (resumed l waiting locks)
  resumed_are l None locks wait is h = h
  resumed_are l (Some waiting) locks wait is h = record { holds = with_are l (Some (record { level = Write; count = waiting.count })) locks.holds (λ some. subst P is wait) h.holds; waiting = tt }

  -- what an act must bring: the lock that it enters is so, it resumes where it waits, it waits on what it holds
  abbrev pub Demands : Request → Reply → Locks → Type 0
  Demands (Enter l level) reply locks = P l
  Demands (Resume l) reply locks = IsWaitingOn l locks.waiting
  Demands (Wait l) Done locks = hold_in l locks.holds ≢ None
  Demands request reply locks = Unit {0}

  pub locks_go : (request : Request) (reply : Reply) (locks : Locks) → LocksAre locks → Demands request reply locks → LocksAre (locks_by request reply locks)
  locks_go (Enter l level) Done locks h it = record { holds = with_are l (entered level (hold_in l locks.holds)) locks.holds (λ some. it) h.holds; waiting = h.waiting }
  locks_go (Exit l) Done locks h it = record { holds = with_are l (exited (hold_in l locks.holds)) locks.holds (λ some. held_is l locks.holds h.holds (was_held (hold_in l locks.holds) some)) h.holds; waiting = h.waiting }
  locks_go (Wait l) Done locks h it = record { holds = with_are l None locks.holds (λ some. held_is l locks.holds h.holds it) h.holds; waiting = held_is l locks.holds h.holds it }
  locks_go (Resume l) Done locks h it = resumed_are l locks.waiting locks h.waiting it h
  locks_go request reply locks h it = h

module _ (P Q : LockName → Type 0) (so : (l : LockName) → P l → Q l) where
  pub locks_more : (locks : Locks) → LocksAre P locks → LocksAre Q locks
  locks_more locks h = record { holds = each_so (λ held. P held.lock) (λ held. Q held.lock) (λ held it. so held.lock it) locks.holds h.holds; waiting = by locks.waiting h.waiting }
    where
      by : (waiting : Option Waiting) → WaitIs P waiting → WaitIs Q waiting
      by None h = tt
      by (Some waiting) h = so waiting.lock h

-- a wait that was answered Done is of a lock that is held
held_if_done : (hold : Option Hold) → Some (monitor_reply (hold_level hold)) ≡ Some Done → hold ≢ None
held_if_done None answered = absurd (cc answered)
held_if_done (Some hold) answered = λ none. cc none

module _ (p : Settings) (next : ThreadId → List Event → Option Request) where
  -- there is such a lock
  abbrev pub LockMade : List Entry → LockName → Type 0
  LockMade now (Name n) = n < p.shape.names
  LockMade now (Mon o) = IsFine p.shape now (value.Ref o)

  pub lock_still : (e : Entry) (es : List Entry) → AllFollow p next (e ∷ es) → (l : LockName) → LockMade es l → LockMade (e ∷ es) l
  lock_still e es follow (Name n) h = h
  lock_still e es follow (Mon o) h = fine_still p next e es follow (value.Ref o) h

  -- a lock that was told, and is there by name
  lock_told : (es : List Entry) (events : List Event) → AllByRecursion (EventHas p next (F p next) (V p next) (V p next) es) events → (l : LockName) → IsToldLock l events → IsLockThere p.shape l → LockMade es l
  lock_told es events all (Name n) told there = there
  lock_told es events all (Mon o) told there = value_fine p next es events all (value.Ref o) told tt

  module _ (sound : AsksSoundly p.shape next) (known : GivesKnownTexts p.shape next) (within : StaysWithinShape p.shape next) where
    -- a lock that a thread asks to enter is there
    pub entered_made : (es : List Entry) → AllFollow p next es → (t : ThreadId) (l : LockName) (level : Level) → next_after next es t ≡ Some (Enter l level) → LockMade es l
    entered_made es follow t l level asked =
        let have : AllHave p next (F p next) (V p next) (V p next) es = all_fine p next sound known within es follow in
        let may : Asked p next t (events_in t (entries_of (Client t.client) es)) (Enter l level) = what_is_asked p next sound known within es follow have t (Enter l level) asked in
        lock_told es (events_in t (entries_of (Client t.client) es)) ((have.clients t.client).told t) l may.keeps.names may.uses

    -- where it resumes, it waits on the lock
    pub resumed_waits : (es : List Entry) → AllFollow p next es → (t : ThreadId) (l : LockName) → next_after next es t ≡ Some (Resume l) → IsWaitingOn l (locks_of t (entries_of (Client t.client) es)).waiting
    resumed_waits es follow t l asked =
        let have : AllHave p next (F p next) (V p next) (V p next) es = all_fine p next sound known within es follow in
        let may : Asked p next t (events_in t (entries_of (Client t.client) es)) (Resume l) = what_is_asked p next sound known within es follow have t (Resume l) asked in
        subst (λ (locks : Locks). IsWaitingOn l locks.waiting) (sym (same_locks t (entries_of (Client t.client) es))) may.keeps.locks

    module _ (e : Entry) (es : List Entry) (follow : AllFollow p next (e ∷ es)) (c : ℕ) (act : IsNextAct p c (next_after next es) e (entries_of (Client c) es)) where
      -- what the act must bring
      demands : (request : Request) → act.request ≡ request → (reply : Reply) → act.reply ≡ reply → Demands (LockMade (e ∷ es)) request reply (locks_of act.thread (entries_of (Client c) es))
      demands (Enter l level) is reply as_well = lock_still e es follow l (entered_made es follow.0 act.thread l level (act.asked ∙ ap Some is))
      demands (Resume l) is reply as_well = subst (λ d. IsWaitingOn l (locks_of act.thread (entries_of (Client d) es)).waiting) act.its (resumed_waits es follow.0 act.thread l (act.asked ∙ ap Some is))
      demands (Wait l) is Done as_well = held_if_done (hold_of act.thread l (entries_of (Client c) es))
          (subst (λ reply. reply_of p act.thread (Wait l) (entries_of (Client c) es) ≡ Some reply) as_well (subst (λ request. reply_of p act.thread request (entries_of (Client c) es) ≡ Some act.reply) is act.answered))
      demands request is reply as_well = tt

      -- so each thread's locks are there after it
      pub act_locks : ((t : ThreadId) → LocksAre (LockMade (e ∷ es)) (locks_of t (entries_of (Client c) es))) → (t : ThreadId) → LocksAre (LockMade (e ∷ es)) (locks_of t (e ∷ entries_of (Client c) es))
      act_locks have t = subst (λ event. LocksAre (LockMade (e ∷ es)) (by_event (locks_after t) event (locks_of t (entries_of (Client c) es)))) (sym act.event) (by (is_thread t act.thread) refl)
        where
          by : (b : Bool) → is_thread t act.thread ≡ b → LocksAre (LockMade (e ∷ es)) (cond b (locks_by act.request act.reply (locks_of t (entries_of (Client c) es))) (locks_of t (entries_of (Client c) es)))
          by true is = subst (λ u. LocksAre (LockMade (e ∷ es)) (locks_by act.request act.reply (locks_of u (entries_of (Client c) es)))) (same_thread t act.thread is)
              (locks_go (LockMade (e ∷ es)) act.request act.reply (locks_of act.thread (entries_of (Client c) es)) (have act.thread) (demands act.request refl act.reply refl))
          by false is = have t
