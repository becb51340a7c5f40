-- In a lawful journal of a sound program the waiters of a client are known.
use Rattle.std.proofs.Common.{ℕ, ◌≡◌, refl, sym, ◌∙◌, ap, subst, Bool, true, false, eqb, Option, Some, List}
use Rattle.dso_base.specs.declared.journal.Entry.{Entry}
use Rattle.dso_base.specs.declared.journal.Node.TheVariants.{Client}
use Rattle.dso_base.specs.declared.lock.LockName.{LockName}
use Rattle.dso_base.specs.declared.lock.ThreadId.{ThreadId}
use Rattle.dso_base.specs.declared.request.Event.{Event}
use Rattle.dso_base.specs.declared.request.Request.{Request}
use Rattle.dso_plain.proofs.keys.SameKeys.{same_number}
use Rattle.dso_law.specs.Settings.{Settings}
use Rattle.dso_law.specs.Entries.{entries_of, events_in}
use Rattle.dso_law.specs.Threads.{Locks, locks_of}
use Rattle.dso_law.specs.ClientWaiters.{is_listed}
use Rattle.dso_law.specs.FitsDown.{IsWaitingOn}
use Rattle.dso_legal.specs.Lawful.{next_after, AllFollow}
use Rattle.dso_legal.specs.PendingBlocks.{no_locks, locks_through}
use Rattle.dso_legal.specs.SoundProgram.{IsOfWaiter, KeepsLocks, KeepsTo, AsksSoundly}
use Rattle.dso_legal.proofs.blocks.OwnThreads.{of_client, no_events_in}
use Rattle.dso_legal.proofs.blocks.SameLocks.{same_locks}
use Rattle.dso_legal.proofs.blocks.WaitsApart.{does_wait}
use Rattle.dso_legal.proofs.fitting.Untold.{keeps_to}
use Rattle.dso_legal.proofs.waiting.Waiters.{waiters_stand}
use Rattle.dso_open_law.specs.FewTouched.{WaitersAreKnown}

module _ (p : Settings) (next : ThreadId → List Event → Option Request) (sound : AsksSoundly p.shape next) (es : List Entry) (follow : AllFollow p next es) where
  -- who waits at a client is one of its threads
  waits_at : (c : ℕ) (t : ThreadId) (l : LockName) → IsWaitingOn l (locks_of t (entries_of (Client c) es)).waiting → t.client ≡ c
  waits_at c t l waits = by (eqb c t.client) refl
    where
      by : (b : Bool) → eqb c t.client ≡ b → t.client ≡ c
      by true is = sym (same_number c t.client is)
      by false other =
          let none : locks_of t (entries_of (Client c) es) ≡ no_locks = same_locks t (entries_of (Client c) es) ∙ ap (λ events. locks_through t events no_locks) (no_events_in c t (entries_of (Client c) es) other (of_client p next c es follow).events) in
          absurd (subst (λ (locks : Locks). IsWaitingOn l locks.waiting) none waits)

  listed_waits : (c : ℕ) (t : ThreadId) (l : LockName) → is_listed t l (entries_of (Client c) es) ≡ true → IsWaitingOn l (locks_of t (entries_of (Client c) es)).waiting
  listed_waits c t l listed = ((waiters_stand p next sound es follow).client c l).listed t listed

  -- who waits asks only what waiters ask, of the lock
  waiter_asks : (t : ThreadId) (l : LockName) (request : Request) → IsWaitingOn l (locks_of t (entries_of (Client t.client) es)).waiting → next_after next es t ≡ Some request
      → IsOfWaiter request × KeepsLocks request (locks_of t (entries_of (Client t.client) es))
  waiter_asks t l request waits asked =
      let own : List Entry = entries_of (Client t.client) es in
      let keeps : KeepsTo p.shape t (events_in t own) request = keeps_to p next sound es follow t request asked in
      let same : locks_of t own ≡ locks_through t (events_in t own) no_locks = same_locks t own in
      (keeps.waits (does_wait l (locks_through t (events_in t own) no_locks).waiting (subst (λ (locks : Locks). IsWaitingOn l locks.waiting) same waits)), subst (KeepsLocks request) (sym same) keeps.locks)

  -- Waiters are known.
  pub waiters_are_known : (c : ℕ) → WaitersAreKnown c (next_after next es) (entries_of (Client c) es)
  waiters_are_known c = record {
    listed = λ t l listed. let waits = listed_waits c t l listed in (waits_at c t l waits, waits);
    asks = λ t l request its waits asked. subst (λ n. IsOfWaiter request × KeepsLocks request (locks_of t (entries_of (Client n) es))) its
        (waiter_asks t l request (subst (λ n. IsWaitingOn l (locks_of t (entries_of (Client n) es)).waiting) (sym its) waits) asked);
  }
