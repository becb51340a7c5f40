-- Whether and at which level each thread holds a lock after an entry that doesn't touch the lock.
use Rattle.std.proofs.Common.{◌-◌, ◌≡◌, refl, sym, ◌∙◌, ap, subst, Bool, true, false, cond, eqb, ◌&&◌, is_some, Option, Some, None, List, [], ◌∷◌}
use Rattle.std.specs.Prelude.{is_none}
use Rattle.dso_base.specs.declared.journal.Entry.{Entry}
use Rattle.dso_base.specs.declared.lock.Level.{Level}
use Rattle.dso_base.specs.declared.lock.Level.TheVariants.{Write}
use Rattle.dso_base.specs.declared.lock.LockName.{LockName}
use Rattle.dso_base.specs.declared.lock.ThreadId.{ThreadId}
use Rattle.dso_base.specs.declared.request.Event.{Event}
use Rattle.dso_base.specs.declared.request.Event.TheVariants.{Act, Lost}
use Rattle.dso_base.specs.declared.request.Reply.{Reply}
use Rattle.dso_base.specs.declared.request.Reply.TheVariants.{Done}
use Rattle.dso_base.specs.declared.request.Request.{Request}
use Rattle.dso_base.specs.declared.request.Request.TheVariants.{Enter, Exit, Wait, Resume}
use Rattle.dso_base.specs.Following.{is_thread}
use Rattle.dso_plain.specs.After.{entered, exited}
use Rattle.dso_plain.specs.KeyTests.{is_lock}
use Rattle.dso_plain.specs.State.{Hold}
use Rattle.dso_plain.proofs.keys.SameKeys.{same_lock, same_thread}
use Rattle.dso_lookup.proofs.Tests.{both}
use Rattle.dso_law.specs.Entries.{by_event}
use Rattle.dso_law.specs.Threads.{Held, Locks, Waiting, hold_in, with_hold, resumed, locks_by, locks_after, locks_of, hold_of}
use Rattle.dso_law.specs.Leases.{is_entered}
use Rattle.dso_law.specs.RequestNeeds.{hold_level}
use Rattle.dso_law.proofs.client.ClientLaws.{lock_either_way, holds_after}
use Rattle.dso_open_law.specs.TouchedThreads.{OfLock, done_topics, event_topics}
use Rattle.dso_open_law.proofs.readings.Untouched.{IsSpared, spared_one, Spares, act_spares}

-- one more entry leaves the level
level_entered : (level : Level) (hold : Option Hold) → is_some hold ≡ true → hold_level (entered level hold) ≡ hold_level hold
level_entered level None held = absurd (cc held)
level_entered level (Some hold) held = refl

-- a hold with one entry less
abbrev one_less : Hold → Option Hold
one_less hold = Some (record { level = hold.level; count = hold.count - 1 })

-- and so does an exit after which the lock is held
level_exited : (hold : Option Hold) → is_some (exited hold) ≡ true → hold_level (exited hold) ≡ hold_level hold
level_exited None held = absurd (cc held)
level_exited (Some hold) held = by (eqb hold.count 1) held
  where
    by : (b : Bool) → is_some (cond b None (one_less hold)) ≡ true → hold_level (cond b None (one_less hold)) ≡ Some hold.level
    by true held = absurd (cc held)
    by false held = refl

module _ (before after : ThreadId → Option Request) (es : List Entry) (l : LockName) where
  -- a hold of a lock that isn't touched, or whose level stays
  level_with : (k : LockName) (hold : Option Hold) (holds : List Held) (stays : Bool) → (stays ≡ true → hold_level hold ≡ hold_level (hold_in k holds)) → IsSpared (OfLock l) (cond stays [] (OfLock k ∷ []))
      → hold_level (hold_in l (with_hold k hold holds)) ≡ hold_level (hold_in l holds)
  level_with k hold holds stays alike none = ap hold_level (holds_after k l hold holds) ∙ by (is_lock k l) stays refl alike none
    where
      by : (same stays : Bool) → is_lock k l ≡ same → (stays ≡ true → hold_level hold ≡ hold_level (hold_in k holds)) → IsSpared (OfLock l) (cond stays [] (OfLock k ∷ [])) → hold_level (cond same hold (hold_in l holds)) ≡ hold_level (hold_in l holds)
      by false stays other alike none = refl
      by true true same alike none = alike refl ∙ ap (λ n. hold_level (hold_in n holds)) (sym (same_lock k l same))
      by true false same alike none = absurd (cc (sym same ∙ lock_either_way k l ∙ spared_one (OfLock l) (OfLock k) none))

  -- a hold of a lock that would be touched
  other_level : (k : LockName) (hold : Option Hold) (holds : List Held) → IsSpared (OfLock l) (OfLock k ∷ []) → hold_level (hold_in l (with_hold k hold holds)) ≡ hold_level (hold_in l holds)
  other_level k hold holds none = level_with k hold holds false (λ never. absurd (cc never)) none

  other_resumed : (k : LockName) (waiting : Option Waiting) (locks : Locks) → IsSpared (OfLock l) (OfLock k ∷ []) → hold_level (hold_in l (resumed k waiting locks).holds) ≡ hold_level (hold_in l locks.holds)
  other_resumed k None locks none = refl
  other_resumed k (Some waiting) locks none = other_level k (Some (record { level = Write; count = waiting.count })) locks.holds none

  -- one more entry, by whether the thread held the lock and the lease was entered
  entered_again : (level : Level) (hold : Option Hold) (lease_entered : Bool) → (is_some hold && lease_entered) ≡ true → hold_level (entered level hold) ≡ hold_level hold
  entered_again level hold lease_entered again = level_entered level hold (both (is_some hold) lease_entered again).0

  level_acted : (t : ThreadId) (request : Request) (reply : Reply) (woken : Option ThreadId) → IsSpared (OfLock l) (done_topics before after es t request reply woken)
      → hold_level (hold_in l (locks_by request reply (locks_of t es)).holds) ≡ hold_level (hold_of t l es)
  level_acted t (Enter k level) Done woken none = level_with k (entered level (hold_of t k es)) (locks_of t es).holds (is_some (hold_of t k es) && is_entered k es) (entered_again level (hold_of t k es) (is_entered k es)) none
  level_acted t (Exit k) Done woken none = level_with k (exited (hold_of t k es)) (locks_of t es).holds (is_some (exited (hold_of t k es))) (level_exited (hold_of t k es)) none
  level_acted t (Wait k) Done woken none = other_level k None (locks_of t es).holds none
  level_acted t (Resume k) Done woken none = other_resumed k (locks_of t es).waiting (locks_of t es) none
  level_acted t request reply woken none = refl

  level_by : (t : ThreadId) (event : Option Event) → IsSpared (OfLock l) (event_topics before after es event) → hold_level (hold_in l (by_event (locks_after t) event (locks_of t es)).holds) ≡ hold_level (hold_of t l es)
  level_by t None none = refl
  level_by t (Some (Lost client)) none = refl
  level_by t (Some (Act u request reply woken)) none = by (is_thread t u) refl
    where
      by : (b : Bool) → is_thread t u ≡ b → hold_level (hold_in l (cond b (locks_by request reply (locks_of t es)) (locks_of t es)).holds) ≡ hold_level (hold_of t l es)
      by true same = level_acted t request reply woken (subst (λ n. IsSpared (OfLock l) (done_topics before after es n request reply woken)) (same_thread t u same) (act_spares before after es (OfLock l) u request reply woken none).does)
      by false other = refl

  module _ (e : Entry) (spares : Spares before after es (OfLock l) e) (t : ThreadId) where
    pub level_stays : hold_level (hold_of t l (e ∷ es)) ≡ hold_level (hold_of t l es)
    level_stays = level_by t e.event spares.done

    -- no hold is no level
    none_there : (hold : Option Hold) → is_none hold ≡ is_none (hold_level hold)
    none_there None = refl
    none_there (Some hold) = refl

    pub held_stays : is_none (hold_of t l (e ∷ es)) ≡ is_none (hold_of t l es)
    held_stays = none_there (hold_of t l (e ∷ es)) ∙ ap is_none level_stays ∙ sym (none_there (hold_of t l es))
