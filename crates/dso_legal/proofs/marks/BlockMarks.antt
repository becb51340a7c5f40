-- What a block makes of the waiters: resolved at the server's lists it runs, marks and all, and leaves the marks known.
use Rattle.std.specs.List.{list_any}
use Rattle.std.proofs.Common.{ℕ, ◌≡◌, ◌≢◌, ◌⊎◌, ◌↔◌, inl, inr, refl, sym, ◌∙◌, ap, subst, Bool, true, false, cond, not, ◌&&◌, ◌||◌, is_some, Option, Some, None, List, [], ◌∷◌}
use Rattle.std.proofs.Math.Path.{fun_ext}
use Rattle.std.specs.Prelude.{drop}
use Rattle.dso_base.specs.declared.lock.LockName.{LockName}
use Rattle.dso_base.specs.declared.lock.ThreadId.{ThreadId}
use Rattle.dso_base.specs.declared.record.Choice.TheVariants.{Here, There, All}
use Rattle.dso_base.specs.declared.request.Event.{Event}
use Rattle.dso_base.specs.declared.request.Event.TheVariants.{Act, Lost}
use Rattle.dso_base.specs.declared.request.Reply.{Reply}
use Rattle.dso_base.specs.declared.request.Reply.TheVariants.{Done, Made, Val}
use Rattle.dso_base.specs.declared.request.Request.{Request}
use Rattle.dso_base.specs.declared.request.Request.TheVariants.{New, Get, Put, Enter, Exit, Wait, Resume, Tick, Timeout, Notify, NotifyAll, Print, End}
use Rattle.dso_base.specs.declared.shape.Shape.{Shape}
use Rattle.dso_base.specs.declared.value.Value.{Value}
use Rattle.dso_base.specs.declared.value.Value.TheVariants as value
use Rattle.dso_base.specs.Following.{is_thread}
use Rattle.dso_lookup.specs.Maps.{or_old}
use Rattle.dso_lookup.proofs.Tests.{both}
use Rattle.dso_plain.specs.KeyTests.{is_lock, is_place}
use Rattle.dso_plain.specs.State.{Hold, PlainState, is_shared, hold_on_guard}
use Rattle.dso_plain.specs.Possible.{IsPossible, IsPossibleButMarks, IsUnmarkedWaiter, FindsMark, Wakes}
use Rattle.dso_plain.specs.After.{apply, after, read, read_shared, put, count_of}
use Rattle.dso_plain.specs.History.{Runs, RunsButMarks, end_of}
use Rattle.dso_plain.specs.Touches.{TimesOut}
use Rattle.dso_plain.proofs.keys.SameKeys.{same_thread, same_lock, thread_self}
use Rattle.dso_law.specs.ClientWaiters.{without}
use Rattle.dso_law.specs.FitsUp.{AreDistinct}
use Rattle.dso_law.specs.ServerWaiters.{lists_after}
use Rattle.dso_legal.specs.Committed.{woken_there, lists_after_act, resolved}
use Rattle.dso_legal.specs.Marks.{KeptThreads, MarksAreKnown, kept_by, lists_without, lists_timed_out, kept_through, lists_through, IsAway, MayWake, EachMayWake}
use Rattle.dso_legal.specs.Resolved.{WaiterLists}

-- a test doesn't hold and fail
differs : {P : Type 0} (b : Bool) → b ≡ true → b ≡ false → P
differs b e f = absurd (cc (sym f ∙ e))

-- the thread left out is not there
pub left_out : (t : ThreadId) (ts : List ThreadId) → list_any (is_thread t) (without t ts) ≡ false
left_out t [] = refl
left_out t (u ∷ ts) = by (is_thread t u) refl (left_out t ts)
  where
    by : (b : Bool) → is_thread t u ≡ b → list_any (is_thread t) (without t ts) ≡ false → list_any (is_thread t) (cond (not b) (u ∷ without t ts) (without t ts)) ≡ false
    by true e rest = rest
    by false e rest = ap (λ b. b || list_any (is_thread t) (without t ts)) e ∙ rest

-- another is there as before
pub left_in : (t w : ThreadId) (ts : List ThreadId) → is_thread t w ≡ false → list_any (is_thread w) (without t ts) ≡ list_any (is_thread w) ts
left_in t w [] ne = refl
left_in t w (u ∷ ts) ne = by (is_thread t u) refl (left_in t w ts ne)
  where
    isnt : is_thread t u ≡ true → (b : Bool) → is_thread w u ≡ b → b ≡ false
    isnt e true f = differs (is_thread t w) (subst (λ x. is_thread t x ≡ true) (same_thread w u f) e) ne
    isnt e false f = refl

    by : (b : Bool) → is_thread t u ≡ b → list_any (is_thread w) (without t ts) ≡ list_any (is_thread w) ts → list_any (is_thread w) (cond (not b) (u ∷ without t ts) (without t ts)) ≡ (is_thread w u || list_any (is_thread w) ts)
    by true e rest = rest ∙ sym (ap (λ b. b || list_any (is_thread w) ts) (isnt e (is_thread w u) refl))
    by false e rest = ap (λ b. is_thread w u || b) rest

-- a list without a thread has each other one once still
pub still_once : (t : ThreadId) (ts : List ThreadId) → AreDistinct ts → AreDistinct (without t ts)
still_once t [] once = tt
still_once t (u ∷ ts) once = by (is_thread t u) refl (still_once t ts once.1)
  where
    by : (b : Bool) → is_thread t u ≡ b → AreDistinct (without t ts) → AreDistinct (cond (not b) (u ∷ without t ts) (without t ts))
    by true e rest = rest
    by false e rest = (left_in t u ts e ∙ once.0, rest)

-- whom the client chose is in no list of the server's
lists_here : (l : LockName) (w : ThreadId) (lists : WaiterLists) → lists_after l (Here w) lists ≡ lists
lists_here l w lists = fun_ext (λ k. same (is_lock l k) (lists k))
  where
    same : (b : Bool) (list : List ThreadId) → cond b list list ≡ list
    same true list = refl
    same false list = refl

-- both of a test are not both
pub neither_way : (t u : ThreadId) → is_thread t u ≡ false → is_thread u t ≡ false
neither_way t u ne = by (is_thread u t) refl
  where
    by : (b : Bool) → is_thread u t ≡ b → b ≡ false
    by true e = differs (is_thread t u) (subst (λ x. is_thread x u ≡ true) (sym (same_thread u t e)) (thread_self u)) ne
    by false e = refl

module _ (kept : KeptThreads) (lists : WaiterLists) (s : PlainState) (k : MarksAreKnown kept lists s) where
  -- where nobody's wait or mark is changed
  same : (r : PlainState) → ((l : LockName) (t : ThreadId) → r.asleep (l, t) ≡ s.asleep (l, t)) → ((l : LockName) (t : ThreadId) → r.marked (l, t) ≡ s.marked (l, t)) → MarksAreKnown kept lists r
  same r asleep marked = record {
    known = λ l t. (
      (λ h. (k.known l t).0 ((λ e. h.0 (asleep l t ∙ e)), sym (marked l t) ∙ h.1)),
      λ h. let u = (k.known l t).1 h in ((λ e. u.0 (sym (asleep l t) ∙ e)), marked l t ∙ u.1),
    );
    apart = k.apart;
    once = k.once;
  }

  -- who waits and is away is marked
  away_marked : (l : LockName) (t : ThreadId) → s.asleep (l, t) ≢ None → IsAway kept lists l t → s.marked (l, t) ≡ true
  away_marked l t asleep away = by (s.marked (l, t)) refl
    where
      by : (b : Bool) → s.marked (l, t) ≡ b → b ≡ true
      by true e = refl
      by false e = elim ((k.known l t).0 (asleep, e)) [
        | inl h ↦ differs (kept l t) h away.unkept
        | inr h ↦ differs (list_any (is_thread t) (lists l)) h away.unlisted
      ]

  -- who doesn't wait is away
  awake_away : (l : LockName) (t : ThreadId) → s.asleep (l, t) ≡ None → IsAway kept lists l t
  awake_away l t none = record { unkept = unkept (kept l t) refl; unlisted = unlisted (list_any (is_thread t) (lists l)) refl }
    where
      unkept : (b : Bool) → kept l t ≡ b → b ≡ false
      unkept true e = absurd (((k.known l t).1 (inl e)).0 none)
      unkept false e = refl

      unlisted : (b : Bool) → list_any (is_thread t) (lists l) ≡ b → b ≡ false
      unlisted true e = absurd (((k.known l t).1 (inr e)).0 none)
      unlisted false e = refl

  module _ (shape : Shape) (t : ThreadId) where
    -- reads and puts change neither
    read_known : (o f : ℕ) (b : Bool) → MarksAreKnown kept lists (apply (read shape t o f b s) s)
    read_known o f false = same (apply (read shape t o f false s) s) (λ l t. refl) (λ l t. refl)
    read_known o f true = by (hold_on_guard shape t o f s)
      where
        by : (hold : Option Hold) → MarksAreKnown kept lists (apply (read_shared t o f hold s) s)
        by None = same (apply (read_shared t o f None s) s) (λ l t. refl) (λ l t. refl)
        by (Some hold) = same (apply (read_shared t o f (Some hold) s) s) (λ l t. refl) (λ l t. refl)

    put_known : (o f : ℕ) (v : Value) (b : Bool) → MarksAreKnown kept lists (apply (put t o f v b s) s)
    put_known o f v true = same (apply (put t o f v true s) s) (λ l t. refl) (λ l t. refl)
    put_known o f v false = same (apply (put t o f v false s) s) (λ l t. refl) (λ l t. refl)

    -- a wait: the thread is kept
    wait_known : (l : LockName) → ((m : LockName) → s.asleep (m, t) ≡ None) → MarksAreKnown (kept_by t (Wait l) Done None kept) lists (after shape (Act t (Wait l) Done None) s)
    wait_known l awake = record {
      known = λ m u. known m u (is_place l t (m, u)) refl;
      apart = λ m u. apart m u (is_place l t (m, u)) refl;
      once = k.once;
    }
      where
        known : (m : LockName) (u : ThreadId) (b : Bool) → is_place l t (m, u) ≡ b
            → ((or_old (cond b (Some (Some (count_of (s.monitors (l, t))))) None) (s.asleep (m, u)) ≢ None) × (or_old (cond b (Some false) None) (s.marked (m, u)) ≡ false)) ↔ ((cond b true (kept m u) ≡ true) ⊎ (list_any (is_thread u) (lists m) ≡ true))
        known m u true e = ((λ h. inl refl), λ h. ((λ d. cc d), refl))
        known m u false e = k.known m u

        apart : (m : LockName) (u : ThreadId) (b : Bool) → is_place l t (m, u) ≡ b → cond b true (kept m u) ≡ true → list_any (is_thread u) (lists m) ≡ false
        apart m u true e h = subst (λ x. list_any (is_thread x) (lists m) ≡ false) (sym (same_thread t u (both (is_lock l m) (is_thread t u) e).1)) (awake_away m t (awake m)).unlisted
        apart m u false e h = k.apart m u h

    -- a thread that goes on, and was away
    resume_known : (l : LockName) → IsAway kept lists l t → MarksAreKnown kept lists (after shape (Act t (Resume l) Done None) s)
    resume_known l away = record { known = λ m u. known m u (is_place l t (m, u)) refl; apart = k.apart; once = k.once }
      where
        known : (m : LockName) (u : ThreadId) (b : Bool) → is_place l t (m, u) ≡ b
            → ((or_old (cond b (Some None) None) (s.asleep (m, u)) ≢ None) × (or_old (cond b (Some false) None) (s.marked (m, u)) ≡ false)) ↔ ((kept m u ≡ true) ⊎ (list_any (is_thread u) (lists m) ≡ true))
        known m u true e =
            let at = both (is_lock l m) (is_thread t u) e in
            let here : IsAway kept lists m u = subst (λ x. IsAway kept lists x u) (sym (same_lock l m at.0)) (subst (λ x. IsAway kept lists l x) (sym (same_thread t u at.1)) away) in (
              (λ h. absurd (h.0 refl)),
              λ h. elim h [
                | inl d ↦ differs (kept m u) d here.unkept
                | inr d ↦ differs (list_any (is_thread u) (lists m)) d here.unlisted
              ],
            )
        known m u false e = k.known m u

    -- a timeout: the thread is away
    timeout_known : (l : LockName) → MarksAreKnown (kept_by t (Timeout l) Done None kept) (lists_without t l lists) (after shape (Act t (Timeout l) Done None) s)
    timeout_known l = record {
      known = λ m u. known m u (is_lock l m) (is_thread t u) refl refl;
      apart = λ m u. apart m u (is_lock l m) (is_thread t u) refl refl;
      once = λ m. once m (is_lock l m);
    }
      where
        known : (m : LockName) (u : ThreadId) (a b : Bool) → is_lock l m ≡ a → is_thread t u ≡ b
            → ((s.asleep (m, u) ≢ None) × (or_old (cond (a && b) (Some true) None) (s.marked (m, u)) ≡ false)) ↔ ((cond (a && b) false (kept m u) ≡ true) ⊎ (list_any (is_thread u) (cond a (without t (lists m)) (lists m)) ≡ true))
        known m u true true e f = (
          (λ h. absurd (cc h.1)),
          λ h. elim h [
            | inl d ↦ absurd (cc d)
            | inr d ↦ differs (list_any (is_thread u) (without t (lists m))) d (subst (λ x. list_any (is_thread x) (without t (lists m)) ≡ false) (sym (same_thread t u f)) (left_out t (lists m)))
          ],
        )
        known m u true false e f = subst (λ x. ((s.asleep (m, u) ≢ None) × (s.marked (m, u) ≡ false)) ↔ ((kept m u ≡ true) ⊎ (x ≡ true))) (sym (left_in t u (lists m) f)) (k.known m u)
        known m u false b e f = k.known m u

        apart : (m : LockName) (u : ThreadId) (a b : Bool) → is_lock l m ≡ a → is_thread t u ≡ b → cond (a && b) false (kept m u) ≡ true → list_any (is_thread u) (cond a (without t (lists m)) (lists m)) ≡ false
        apart m u true true e f h = absurd (cc h)
        apart m u true false e f h = left_in t u (lists m) f ∙ k.apart m u h
        apart m u false b e f h = k.apart m u h

        once : (m : LockName) (a : Bool) → AreDistinct (cond a (without t (lists m)) (lists m))
        once m true = still_once t (lists m) (k.once m)
        once m false = k.once m

    -- one that the client chose is away
    here_known : (l : LockName) (w : ThreadId) → kept l w ≡ true → MarksAreKnown (kept_by t (Notify l) Done (Some w) kept) lists (after shape (Act t (Notify l) Done (Some w)) s)
    here_known l w is = record {
      known = λ m u. known m u (is_place l w (m, u)) refl;
      apart = λ m u. apart m u (is_place l w (m, u)) refl;
      once = k.once;
    }
      where
        known : (m : LockName) (u : ThreadId) (b : Bool) → is_place l w (m, u) ≡ b
            → ((s.asleep (m, u) ≢ None) × (or_old (cond b (Some true) None) (s.marked (m, u)) ≡ false)) ↔ ((cond b false (kept m u) ≡ true) ⊎ (list_any (is_thread u) (lists m) ≡ true))
        known m u true e =
            let at = both (is_lock l m) (is_thread w u) e in (
              (λ h. absurd (cc h.1)),
              λ h. elim h [
                | inl d ↦ absurd (cc d)
                | inr d ↦ differs (list_any (is_thread u) (lists m)) d (k.apart m u (subst (λ x. kept x u ≡ true) (sym (same_lock l m at.0)) (subst (λ x. kept l x ≡ true) (sym (same_thread w u at.1)) is)))
              ],
            )
        known m u false e = k.known m u

        apart : (m : LockName) (u : ThreadId) (b : Bool) → is_place l w (m, u) ≡ b → cond b false (kept m u) ≡ true → list_any (is_thread u) (lists m) ≡ false
        apart m u true e h = absurd (cc h)
        apart m u false e h = k.apart m u h

    -- of all none is left
    all_known : (l : LockName) → MarksAreKnown (kept_by t (NotifyAll l) Done None kept) (lists_after l All lists) (after shape (Act t (NotifyAll l) Done None) s)
    all_known l = record {
      known = λ m u. known m u (is_lock l m) (s.asleep (m, u)) refl;
      apart = λ m u. apart m u (is_lock l m);
      once = λ m. once m (is_lock l m);
    }
      where
        known : (m : LockName) (u : ThreadId) (a : Bool) (wait : Option ℕ) → s.asleep (m, u) ≡ wait
            → ((s.asleep (m, u) ≢ None) × (or_old (cond (a && is_some wait) (Some true) None) (s.marked (m, u)) ≡ false)) ↔ ((cond a false (kept m u) ≡ true) ⊎ (list_any (is_thread u) (cond a [] (lists m)) ≡ true))
        known m u true None e = (
          (λ h. absurd (h.0 e)),
          λ h. elim h [
            | inl d ↦ absurd (cc d)
            | inr d ↦ absurd (cc d)
          ],
        )
        known m u true (Some count) e = (
          (λ h. absurd (cc h.1)),
          λ h. elim h [
            | inl d ↦ absurd (cc d)
            | inr d ↦ absurd (cc d)
          ],
        )
        known m u false wait e = k.known m u

        apart : (m : LockName) (u : ThreadId) (a : Bool) → cond a false (kept m u) ≡ true → list_any (is_thread u) (cond a [] (lists m)) ≡ false
        apart m u true h = refl
        apart m u false h = k.apart m u h

        once : (m : LockName) (a : Bool) → AreDistinct (cond a [] (lists m))
        once m true = tt
        once m false = k.once m

    -- the server chooses nobody, or its first
    there_known : (l : LockName) (list : List ThreadId) → lists l ≡ list → ((u : ThreadId) → kept l u ≡ false) → MarksAreKnown kept (lists_after l There lists) (after shape (Act t (Notify l) Done (woken_there (Notify l) Done None (λ _. list))) s)
    there_known l [] is none = record {
      known = λ m u. known m u (is_lock l m) refl;
      apart = λ m u h. apart m u h (is_lock l m) refl;
      once = λ m. once m (is_lock l m) refl;
    }
      where
        empty : (m : LockName) → is_lock l m ≡ true → lists m ≡ []
        empty m e = ap lists (same_lock l m e) ∙ is

        dropped : (m : LockName) (a : Bool) → is_lock l m ≡ a → cond a (drop 1 (lists m)) (lists m) ≡ lists m
        dropped m true e = ap (λ ts. drop 1 ts) (empty m e) ∙ sym (empty m e)
        dropped m false e = refl

        known : (m : LockName) (u : ThreadId) (a : Bool) → is_lock l m ≡ a → IsUnmarkedWaiter m u s ↔ ((kept m u ≡ true) ⊎ (list_any (is_thread u) (cond a (drop 1 (lists m)) (lists m)) ≡ true))
        known m u a e = subst (λ ts. IsUnmarkedWaiter m u s ↔ ((kept m u ≡ true) ⊎ (list_any (is_thread u) ts ≡ true))) (sym (dropped m a e)) (k.known m u)

        apart : (m : LockName) (u : ThreadId) → kept m u ≡ true → (a : Bool) → is_lock l m ≡ a → list_any (is_thread u) (cond a (drop 1 (lists m)) (lists m)) ≡ false
        apart m u h a e = ap (λ ts. list_any (is_thread u) ts) (dropped m a e) ∙ k.apart m u h

        once : (m : LockName) (a : Bool) → is_lock l m ≡ a → AreDistinct (cond a (drop 1 (lists m)) (lists m))
        once m a e = subst AreDistinct (sym (dropped m a e)) (k.once m)
    there_known l (w ∷ ws) is none = record {
      known = λ m u. known m u (is_lock l m) (is_thread w u) refl refl;
      apart = λ m u h. apart m u h (is_lock l m) refl;
      once = λ m. once m (is_lock l m) refl;
    }
      where
        there : (m : LockName) → is_lock l m ≡ true → lists m ≡ w ∷ ws
        there m e = ap lists (same_lock l m e) ∙ is

        unkept : (m : LockName) (u : ThreadId) → is_lock l m ≡ true → kept m u ≡ false
        unkept m u e = subst (λ x. kept x u ≡ false) (sym (same_lock l m e)) (none u)

        known : (m : LockName) (u : ThreadId) (a b : Bool) → is_lock l m ≡ a → is_thread w u ≡ b
            → ((s.asleep (m, u) ≢ None) × (or_old (cond (a && b) (Some true) None) (s.marked (m, u)) ≡ false)) ↔ ((kept m u ≡ true) ⊎ (list_any (is_thread u) (cond a (drop 1 (lists m)) (lists m)) ≡ true))
        known m u true true e f = (
          (λ h. absurd (cc h.1)),
          λ h. elim h [
            | inl d ↦ differs (kept m u) d (unkept m u e)
            | inr d ↦ differs (list_any (is_thread u) ws) (ap (λ ts. list_any (is_thread u) (drop 1 ts)) (sym (there m e)) ∙ d)
                (subst (λ x. list_any (is_thread x) ws ≡ false) (sym (same_thread w u f)) (subst AreDistinct is (k.once l)).0)
          ],
        )
        known m u true false e f = subst (λ x. ((s.asleep (m, u) ≢ None) × (s.marked (m, u) ≡ false)) ↔ ((kept m u ≡ true) ⊎ (x ≡ true)))
            (ap (λ ts. list_any (is_thread u) ts) (there m e) ∙ ap (λ b. b || list_any (is_thread u) ws) (neither_way w u f) ∙ sym (ap (λ ts. list_any (is_thread u) (drop 1 ts)) (there m e)))
            (k.known m u)
        known m u false b e f = k.known m u

        apart : (m : LockName) (u : ThreadId) → kept m u ≡ true → (a : Bool) → is_lock l m ≡ a → list_any (is_thread u) (cond a (drop 1 (lists m)) (lists m)) ≡ false
        apart m u h true e = differs (kept m u) h (unkept m u e)
        apart m u h false e = k.apart m u h

        once : (m : LockName) (a : Bool) → is_lock l m ≡ a → AreDistinct (cond a (drop 1 (lists m)) (lists m))
        once m true e = subst (λ ts. AreDistinct (drop 1 ts)) (sym (there m e)) (subst AreDistinct is (k.once l)).1
        once m false e = k.once m

    -- what an act leaves known
    act_known : (request : Request) (reply : Reply) (woken : Option ThreadId) → IsPossibleButMarks shape t request reply s → MayWake t request reply woken kept lists
        → MarksAreKnown (kept_by t request reply woken kept) (lists_timed_out t request reply (lists_after_act request reply woken lists)) (after shape (Act t request reply (woken_there request reply woken lists)) s)
    act_known (New class n) (Made o) woken p m = same (after shape (Act t (New class n) (Made o) woken) s) (λ l t. refl) (λ l t. refl)
    act_known (Get o f) (Val v) woken p m = read_known o f (is_shared (s.objects o))
    act_known (Put o f v) Done woken p m = put_known o f v (is_shared (s.objects o))
    act_known (Enter l level) Done woken p m = same (after shape (Act t (Enter l level) Done woken) s) (λ l t. refl) (λ l t. refl)
    act_known (Exit l) Done woken p m = same (after shape (Act t (Exit l) Done woken) s) (λ l t. refl) (λ l t. refl)
    act_known (Wait l) Done woken p m = wait_known l p.awake
    act_known (Resume l) Done woken p m = resume_known l m.0
    act_known (Timeout l) Done woken p m = timeout_known l
    act_known (Notify l) Done None p m = there_known l (lists l) refl m
    act_known (Notify l) Done (Some w) p m = subst (λ ls. MarksAreKnown (kept_by t (Notify l) Done (Some w) kept) ls (after shape (Act t (Notify l) Done (Some w)) s)) (sym (lists_here l w lists)) (here_known l w m)
    act_known (NotifyAll l) Done woken p m = all_known l
    act_known (Print v) Done woken p m = same (after shape (Act t (Print v) Done woken) s) (λ l t. refl) (λ l t. refl)
    act_known (End fault) Done woken p m = same (after shape (Act t (End fault) Done woken) s) (λ l t. refl) (λ l t. refl)
    act_known request reply woken p m = k

    -- it finds its mark
    act_finds : (request : Request) (reply : Reply) (woken : Option ThreadId) → IsPossibleButMarks shape t request reply s → MayWake t request reply woken kept lists → FindsMark request reply t s
    act_finds (Resume l) Done woken p m = away_marked l t p.answers.0 m.0
    act_finds (Resume l) reply woken p m = absurd p.answers
    act_finds (Tick l) (Val (value.Bool true)) woken p m = away_marked l t p.answers m.0
    act_finds (Timeout l) (Val (value.Bool true)) woken p m = away_marked l t p.answers m.0
    act_finds request reply woken p m = tt

    -- and wakes whom it may
    there_wakes : (l : LockName) (list : List ThreadId) → lists l ≡ list → ((u : ThreadId) → kept l u ≡ false) → Wakes (Notify l) Done (woken_there (Notify l) Done None (λ _. list)) s
    there_wakes l [] is none = λ w waits. elim ((k.known l w).0 waits) [
      | inl h ↦ differs (kept l w) h (none w)
      | inr h ↦ absurd (cc (sym h ∙ ap (λ ts. list_any (is_thread w) ts) is))
    ]
    there_wakes l (w ∷ ws) is none = (k.known l w).1 (inr (ap (λ ts. list_any (is_thread w) ts) is ∙ ap (λ b. b || list_any (is_thread w) ws) (thread_self w)))

    act_wakes : (request : Request) (reply : Reply) (woken : Option ThreadId) → MayWake t request reply woken kept lists → Wakes request reply (woken_there request reply woken lists) s
    act_wakes (Notify l) Done None m = there_wakes l (lists l) refl m
    act_wakes (Notify l) Done (Some w) m = (k.known l w).1 (inl m)
    act_wakes (Resume l) reply woken m = m.1
    act_wakes (Tick l) (Val (value.Bool true)) woken m = m.1
    act_wakes (Timeout l) (Val (value.Bool true)) woken m = m.1
    act_wakes request reply woken m = m

    act_may : (request : Request) (reply : Reply) (woken : Option ThreadId) → IsPossibleButMarks shape t request reply s → MayWake t request reply woken kept lists → IsPossible shape t request reply (woken_there request reply woken lists) s
    act_may request reply woken p m = record { connected = p.connected; going = p.going; awake = p.awake; answers = p.answers; finds = act_finds request reply woken p m; wakes = act_wakes request reply woken m }

-- only the last of the events may be a timeout that comes in time
abbrev pub LateLast : List Event → Type 0
LateLast [] = Unit {0}
LateLast (event ∷ []) = Unit {0}
LateLast (event ∷ next ∷ events) = (TimesOut event → ⊥) × LateLast (next ∷ events)

-- an act that is no such timeout takes nobody out of the lists
in_time : (t : ThreadId) (request : Request) (reply : Reply) (woken : Option ThreadId) (lists : WaiterLists) → (TimesOut (Act t request reply woken) → ⊥) → lists_timed_out t request reply lists ≡ lists
in_time t (Timeout l) Done woken lists late = absurd (late tt)
in_time t request reply woken lists late = refl

-- What is so of a block: resolved at the lists it runs, marks and all, and leaves the marks known.
pub record KnowsMarks (shape : Shape) (block : List Event) (kept : KeptThreads) (lists : WaiterLists) (s : PlainState) : Type 0 where
  pub runs : Runs shape (resolved block lists) s
  pub marks : MarksAreKnown (kept_through block kept) (lists_through block lists) (end_of shape (resolved block lists) s)

-- A block of which each act may wake so, and which can run but for marks, does so.
pub block_knows : (shape : Shape) (block : List Event) (kept : KeptThreads) (lists : WaiterLists) (s : PlainState) → LateLast block → RunsButMarks shape (resolved block lists) s → EachMayWake block kept lists
    → MarksAreKnown kept lists s → KnowsMarks shape block kept lists s
block_knows shape [] kept lists s late runs may k = record { runs = tt; marks = k }
block_knows shape (Lost client ∷ events) kept lists s late runs may k = absurd may
block_knows shape (Act t request reply woken ∷ []) kept lists s late runs may k =
    record { runs = (act_may kept lists s k shape t request reply woken runs.0 may.0, tt); marks = act_known kept lists s k shape t request reply woken runs.0 may.0 }
block_knows shape (Act t request reply woken ∷ event ∷ events) kept lists s late runs may k =
    let now_lists : WaiterLists = lists_timed_out t request reply (lists_after_act request reply woken lists) in
    let now_kept : KeptThreads = kept_by t request reply woken kept in
    let now : PlainState = after shape (Act t request reply (woken_there request reply woken lists)) s in
    let same : now_lists ≡ lists_after_act request reply woken lists = in_time t request reply woken (lists_after_act request reply woken lists) late.0 in
    let rest : KnowsMarks shape (event ∷ events) now_kept now_lists now = block_knows shape (event ∷ events) now_kept now_lists now late.1
    (subst (λ ls. RunsButMarks shape (resolved (event ∷ events) ls) now) (sym same) runs.1) may.1 (act_known kept lists s k shape t request reply woken runs.0 may.0) in
    record {
      runs = (act_may kept lists s k shape t request reply woken runs.0 may.0, subst (λ ls. Runs shape (resolved (event ∷ events) ls) now) same rest.runs);
      marks = subst (λ ls. MarksAreKnown (kept_through (event ∷ events) now_kept) (lists_through (event ∷ events) now_lists) (end_of shape (resolved (event ∷ events) ls) now)) same rest.marks;
    }
