-- In a run of a client a lock is asked for only while one of its threads wants it, where no lock whose lease is to be
-- given back is local to a thread.
use Rattle.std.specs.List.{list_any}
use Rattle.std.proofs.Common.{ℕ, ◌≡◌, inl, inr, sym, subst, true, false}
use Rattle.std.proofs.Common.{Option, Some, None, List, [], ◌∷◌}
use Rattle.dso_base.specs.declared.journal.Entry.{Entry}
use Rattle.dso_base.specs.declared.lock.LockName.{LockName}
use Rattle.dso_base.specs.declared.lock.ThreadId.{ThreadId}
use Rattle.dso_base.specs.declared.request.Event.{Event}
use Rattle.dso_base.specs.declared.request.Request.{Request}
use Rattle.dso_base.specs.declared.request.Request.TheVariants.{Enter, Resume}
use Rattle.dso_plain.specs.KeyTests.{is_lock}
use Rattle.dso_law.specs.Settings.{Settings}
use Rattle.dso_law.specs.Entries.{unsent}
use Rattle.dso_law.specs.Threads.{is_local}
use Rattle.dso_law.specs.Leases.{leased, is_asked_for}
use Rattle.dso_law.specs.Closing.{due}
use Rattle.dso_law.specs.ClientRun.{ClientRun, next_in}
use Rattle.dso_law.proofs.runs.Others.{IsOthers, same_events}
use Rattle.dso_gc_law.proofs.leases.LocksNamed.{seeks}
use Rattle.dso_gc_law.proofs.leases.Touched.{due_is_free}
use Rattle.dso_gc_law.proofs.leases.Asking.{Wants, still_wanted, IsItsThread, AsksAgain, what_is_asked, others_event}

-- A thread of the client wants the lock.
pub record Wanter (p : Settings) (c : ℕ) (l : LockName) (next : ThreadId → Option Request)
    (es : List Entry) : Type 0 where
  pub thread : ThreadId
  pub its : IsItsThread p c thread
  pub wants : Wants p l thread (next thread) es

-- who wants a lock asks to enter it, or to go on at it
pub wants_seeks : (p : Settings) (l : LockName) (t : ThreadId) (request : Option Request) (es : List Entry)
    → Wants p l t request es → seeks l request ≡ true
wants_seeks p l t None es wants = absurd wants
wants_seeks p l t (Some (Enter k level)) es wants = wants.0
wants_seeks p l t (Some (Resume k)) es wants = wants
wants_seeks p l t (Some request) es wants = absurd wants

-- no lock whose lease is to be given back after the entry is local to a thread of the client
abbrev pub NoneIsLocal : Settings → ℕ → (ThreadId → List Event → Option Request) → Entry → List Entry → Type 0
NoneIsLocal p c next e es = (t : ThreadId) → t.client ≡ c → (l : LockName)
    → list_any (is_lock l) (due p c (next_in next (e ∷ es)) (unsent e ∷ es)) ≡ true
    → is_local p.shape t l (e ∷ es) ≡ false

-- so at each entry
abbrev pub NoneAreLocal : Settings → ℕ → (ThreadId → List Event → Option Request) → List Entry → Type 0
NoneAreLocal p c next [] = Unit {0}
NoneAreLocal p c next (e ∷ es) = NoneAreLocal p c next es × NoneIsLocal p c next e es

-- no lock is asked for that is leased
abbrev pub AskedIsUnleased : List Entry → Type 0
AskedIsUnleased es = (l : LockName) → is_asked_for l es ≡ true → leased l es ≡ None

-- so after each entry
abbrev pub AskedAreUnleased : List Entry → Type 0
AskedAreUnleased [] = Unit {0}
AskedAreUnleased (e ∷ es) = AskedAreUnleased es × AskedIsUnleased es

module _ (p : Settings) (c : ℕ) (next : ThreadId → List Event → Option Request) (l : LockName) where
  -- a thread of the client wants it after these entries
  abbrev WantedAfter : List Entry → Type 0
  WantedAfter es = Wanter p c l (next_in next es) es

  -- who wants it goes on wanting it where it has no event
  goes_on : (e : Entry) (es : List Entry) (t : ThreadId) → IsItsThread p c t → IsOthers t e.event
      → Wants p l t (next_in next es t) es → WantedAfter (e ∷ es)
  goes_on e es t its others wants = record {
    thread = t;
    its = its;
    wants = subst (λ events. Wants p l t (next t events) (e ∷ es)) (sym (same_events t e es others))
        (still_wanted p l t (next_in next es t) e es others wants);
  }

  -- nobody has the event where there is none
  nobodys : (t : ThreadId) (e : Entry) → e.event ≡ None → IsOthers t e.event
  nobodys t e none = subst (IsOthers t) (sym none) tt

  -- the entry asks again
  asked_again : (e : Entry) (es : List Entry) → NoneIsLocal p c next e es
      → AsksAgain p c (next_in next es) (next_in next (e ∷ es)) e es l → WantedAfter (e ∷ es)
  asked_again e es shared again = record {
    thread = again.thread;
    its = again.its;
    wants = subst (λ request. Wants p l again.thread request (e ∷ es)) (sym again.enters) (
      again.same,
      (
        shared again.thread again.its.client l again.due,
        due_is_free p c (next_in next (e ∷ es)) l (unsent e ∷ es) again.due again.thread again.its.client
            again.its.listed,
      ),
    );
  }

  -- Asked is wanted.
  pub asked_in_run : (es : List Entry) → ClientRun p c next es → NoneAreLocal p c next es → AskedAreUnleased es
      → is_asked_for l es ≡ true → WantedAfter es
  asked_in_run [] run shared unleased is = absurd (cc is)
  asked_in_run (e ∷ es) run shared unleased is = elim
      (what_is_asked p c (next_in next es) (next_in next (e ∷ es)) e es l run.1 is) [
        | inl before ↦
            let one : WantedAfter es = asked_in_run es run.0 shared.0 unleased.0 before in
            goes_on e es one.thread one.its
            (others_event p c (next_in next es) (next_in next (e ∷ es)) e es l one.thread
            one.its.client before (unleased.1 l before) one.wants e.input run.1) one.wants
        | inr new ↦ elim new [
          | inl need ↦ goes_on e es need.thread need.its (nobodys need.thread e need.quiet) need.wants
          | inr again ↦ asked_again e es shared.1 again
        ]
      ]
