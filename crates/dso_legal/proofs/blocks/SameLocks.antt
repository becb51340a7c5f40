-- A thread's locks by its client's entries are those that its events make.
use Rattle.std.proofs.Common.{◌≡◌, refl, sym, ◌∙◌, ap, Bool, true, false, cond, Option, Some, None, List, [], ◌∷◌, ◌++◌}
use Rattle.dso_base.specs.declared.journal.Entry.{Entry}
use Rattle.dso_base.specs.declared.lock.ThreadId.{ThreadId}
use Rattle.dso_base.specs.declared.request.Event.{Event}
use Rattle.dso_base.specs.declared.request.Event.TheVariants.{Act, Lost}
use Rattle.dso_plain.specs.History.{is_act_of}
use Rattle.dso_law.specs.Entries.{by_event, add_event, events_in}
use Rattle.dso_law.specs.Threads.{Locks, locks_after, locks_of}
use Rattle.dso_legal.specs.PendingBlocks.{no_locks, locks_through}
use Rattle.dso_legal.proofs.leases.LeaseSteps.{unless_true}

-- one more event
pub locks_one_more : (t : ThreadId) (events : List Event) (e : Event) (locks : Locks) → locks_through t (events ++ e ∷ []) locks ≡ locks_after t e (locks_through t events locks)
locks_one_more t [] e locks = refl
locks_one_more t (first ∷ events) e locks = locks_one_more t events e (locks_after t first locks)

-- an event that isn't the thread's leaves its locks
pub others_leave_locks : (t : ThreadId) (e : Event) (locks : Locks) → is_act_of t e ≡ false → locks_after t e locks ≡ locks
others_leave_locks t (Act thread request reply woken) locks other = unless_true (is_act_of t (Act thread request reply woken)) _ locks other
others_leave_locks t (Lost client) locks other = refl

-- Same: the locks are those of the events, for any entries.
pub same_locks : (t : ThreadId) (es : List Entry) → locks_of t es ≡ locks_through t (events_in t es) no_locks
same_locks t [] = refl
same_locks t (e ∷ es) = ap (λ locks. by_event (locks_after t) e.event locks) (same_locks t es) ∙ with_event e.event
  where
    by : (event : Event) (b : Bool) → is_act_of t event ≡ b → locks_after t event (locks_through t (events_in t es) no_locks) ≡ locks_through t (cond b (events_in t es ++ event ∷ []) (events_in t es)) no_locks
    by event true is = sym (locks_one_more t (events_in t es) event no_locks)
    by event false is = others_leave_locks t event (locks_through t (events_in t es) no_locks) is

    with_event : (event : Option Event) → by_event (locks_after t) event (locks_through t (events_in t es) no_locks) ≡ locks_through t (by_event (add_event t) event (events_in t es)) no_locks
    with_event None = refl
    with_event (Some event) = by event (is_act_of t event) refl
