-- What a thread may do it may still do, whatever is marked, after a step of another thread that has nothing to do with it.
use Rattle.std.proofs.Common.{ℕ, ◌<◌, ◌≡◌, ◌≢◌, ◌⊎◌, inl, inr, refl, sym, ◌∙◌, ap, subst, Bool, true, false, Option, Some, None}
use Rattle.dso_base.specs.declared.lock.Level.{Level}
use Rattle.dso_base.specs.declared.lock.Level.TheVariants.{Read, Write}
use Rattle.dso_base.specs.declared.lock.LockName.{LockName}
use Rattle.dso_base.specs.declared.lock.LockName.TheVariants.{Mon, Name}
use Rattle.dso_base.specs.declared.lock.ThreadId.{ThreadId}
use Rattle.dso_base.specs.declared.request.Fault.TheVariants.{UnlockedSharedObject, WrongLock, ReadOnly, LockUpgrade, IllegalMonitor}
use Rattle.dso_base.specs.declared.request.Reply.{Reply}
use Rattle.dso_base.specs.declared.request.Reply.TheVariants.{Done, Made, Seen, Val, Local, Refused}
use Rattle.dso_base.specs.declared.request.Request.{Request}
use Rattle.dso_base.specs.declared.request.Request.TheVariants.{New, Look, Get, Put, Enter, Exit, Wait, Tick, Timeout, Resume, Notify, NotifyAll, Print, End, Pause, Settle}
use Rattle.dso_base.specs.declared.shape.Shape.{Shape}
use Rattle.dso_base.specs.declared.value.ClassId.{ClassId}
use Rattle.dso_base.specs.declared.value.Value.TheVariants as value
use Rattle.dso_base.specs.Following.{is_thread}
use Rattle.dso_plain.specs.State.{Hold, PlainState, is_shared, size_of, IsPrivate, IsShared, HasField, HoldsNothing, level_of, guard_in, guard_of_object, hold_on_guard}
use Rattle.dso_plain.specs.Possible.{IsPossibleButMarks, AnswersRequest, AnswersNew, AnswersLook, AnswersGet, AnswersPut, AnswersEnter, AnswersExit, AnswersMonitor, AnswersTick, AnswersTimeout, AnswersResume, AnswersEnd, IsOf, StandsFrom, IsPrivateMonitor, IsClusterLock, IsUpgrade, IsCompatible, NoConflict, HoldsWrite, IsAwakeFor}
use Rattle.dso_plain.specs.Touches.{ActTouches, ActMakes, NoClash, NoCommonId}
use Rattle.dso_plain.proofs.keys.SameKeys.{same_thread, thread_self}
use Rattle.dso_plain.proofs.independence.LeavesOthers.{IsQuiet, absent_private, absent_shared, private_or_shared, private_to_one, differ}

-- two threads are the same or not
pub cases_thread : (w t : ThreadId) → (w ≡ t) ⊎ (w ≢ t)
cases_thread w t = by (is_thread t w) refl
  where
    by : (b : Bool) → is_thread t w ≡ b → (w ≡ t) ⊎ (w ≢ t)
    by true e = inl (same_thread t w e)
    by false e = inr (λ d. differ (is_thread t w) e (subst (λ x. is_thread t x ≡ true) (sym d) (thread_self t)))

-- a hold has a level
pub some_level : (hold : Option Hold) → hold ≢ None → (x : Level) × (level_of hold ≡ Some x)
some_level None ne = absurd (ne refl)
some_level (Some hold) ne = (hold.level, refl)

-- others that hold at Read alone, and only where Read is wanted, do not conflict
beside_read : (level : Level) (hold : Option Hold) → ((x : Level) → level_of hold ≡ Some x → (x ≡ Read) × (level ≡ Read)) → IsCompatible level (level_of hold)
beside_read level None h = tt
beside_read level (Some hold) h = let e = h hold.level refl in subst (λ x. IsCompatible level (Some x)) (sym e.0) (subst (λ y. IsCompatible y (Some Read)) (sym e.1) tt)

-- who holds at no level holds not
none_held : (hold : Option Hold) → ((x : Level) → level_of hold ≡ Some x → ⊥) → hold ≡ None
none_held None h = refl
none_held (Some hold) h = absurd (h hold.level refl)

module _ (shape : Shape) (t u : ThreadId) (touch : LockName → Level → Type 0) (makes : ℕ → Type 0) (s r : PlainState) (other : u ≢ t) (q : IsQuiet shape t touch makes s r) where
  -- an object that is private to u stays as it is
  pub kept_private : (o : ℕ) → IsPrivate u o s → r.objects o ≡ s.objects o
  kept_private o own = q.stays o (λ mine. private_to_one t u (s.objects o) mine own other) (λ absent. absent_private u (s.objects o) absent own)

  -- a shared object stays as it is
  pub kept_shared : (o : ℕ) → IsShared o s → r.objects o ≡ s.objects o
  kept_shared o common = q.stays o (λ mine. private_or_shared t (s.objects o) mine common) (λ absent. absent_shared (s.objects o) absent common)

  -- it is private to u still
  pub still_private : (o : ℕ) → IsPrivate u o s → IsPrivate u o r
  still_private o own = q.privacy u o other ∙ own

  -- it is shared still
  pub still_shared : (o : ℕ) → IsShared o s → IsShared o r
  still_shared o common = ap (λ x. is_shared x) (kept_shared o common) ∙ common

  -- how u holds the guard of a shared object's field
  pub same_guard_hold : (o f : ℕ) → IsShared o s → hold_on_guard shape u o f r ≡ hold_on_guard shape u o f s
  same_guard_hold o f common = q.monitors (guard_in shape r o f) u other ∙ ap (λ x. s.monitors (guard_of_object shape x o f, u)) (kept_shared o common)

  -- it has the field still
  still_field : (o f : ℕ) → r.objects o ≡ s.objects o → HasField o f s → HasField o f r
  still_field o f kept has = subst (λ x. f < size_of x) (sym kept) has

  -- who holds nothing still does
  still_nothing : HoldsNothing u s → HoldsNothing u r
  still_nothing h l = q.monitors l u other ∙ h l

  -- an id that is free and not taken is free still
  still_new : (class : ClassId) (n : ℕ) (reply : Reply) → NoCommonId makes (ActMakes (New class n) reply) → AnswersNew shape class n reply s → AnswersNew shape class n reply r
  still_new class n (Made o) ids a = (a.0, q.fresh o a.1 (λ m. ids o m refl), a.2)
  still_new class n reply ids a = absurd a

  -- what is seen of an object is the same
  still_look : (o : ℕ) (reply : Reply) → AnswersLook u o reply s → AnswersLook u o reply r
  still_look o (Seen class n) a = elim a.0 [
    | inl own ↦ (inl (still_private o own), subst (λ x. IsOf class n x) (sym (kept_private o own)) a.1)
    | inr common ↦ (inr (still_shared o common), subst (λ x. IsOf class n x) (sym (kept_shared o common)) a.1)
  ]
  still_look o reply a = absurd a

  -- a read gives the same
  still_get : (o f : ℕ) (reply : Reply) → NoClash touch (ActTouches u (Get o f) reply s) → AnswersGet shape u o f reply s → AnswersGet shape u o f reply r
  still_get o f (Val v) locks (inl a) = inl (still_private o a.0, q.heap_own u (o, f) other a.0 ∙ a.1)
  still_get o f (Val v) locks (inr (inl a)) =
      let level = some_level (hold_on_guard shape u o f s) a.1 in
      inr (inl (
        still_shared o a.0,
        (λ e. a.1 (sym (same_guard_hold o f a.0) ∙ e)),
        q.heap (o, f) a.0 (λ w. let e = (locks (guard_in shape s o f) Write level.0 w (inl level.1)).0 in cc e) ∙ a.2,
      ))
  still_get o f (Val v) locks (inr (inr a)) = inr (inr (
    still_shared o a.0,
    same_guard_hold o f a.0 ∙ a.1,
    subst (λ place. StandsFrom place v (r.past (o, f))) (sym (q.seen (u, o, f) other)) (q.grows (o, f) (s.seen (u, o, f)) v a.0 a.2),
  ))
  still_get o f reply locks a = absurd a

  -- a put is answered the same
  still_put : (o f : ℕ) (reply : Reply) → AnswersPut shape u o f reply s → AnswersPut shape u o f reply r
  still_put o f Done a = elim a.1 [
    | inl own ↦ (still_field o f (kept_private o own) a.0, inl (still_private o own))
    | inr h ↦ (still_field o f (kept_shared o h.0) a.0, inr (still_shared o h.0, ap level_of (same_guard_hold o f h.0) ∙ h.1))
  ]
  still_put o f (Refused UnlockedSharedObject) a = (still_field o f (kept_shared o a.1.0) a.0, (still_shared o a.1.0, still_nothing a.1.1))
  still_put o f (Refused ReadOnly) a = (still_field o f (kept_shared o a.1.0) a.0, (still_shared o a.1.0, ap level_of (same_guard_hold o f a.1.0) ∙ a.1.1))
  still_put o f (Refused WrongLock) a = (
    still_field o f (kept_shared o a.1.0) a.0,
    (
      still_shared o a.1.0,
      (a.1.1.0, λ e. a.1.1.1 (sym (q.monitors a.1.1.0 u other) ∙ e)),
      same_guard_hold o f a.1.0 ∙ a.1.2,
    ),
  )
  still_put o f reply a = absurd a.1

  -- a private monitor is one still
  still_monitor_private : (l : LockName) → IsPrivateMonitor u l s → IsPrivateMonitor u l r
  still_monitor_private (Mon o) own = still_private o own
  still_monitor_private (Name n) h = absurd h

  -- a lock of the cluster is one still
  still_cluster : (l : LockName) → IsClusterLock l s → IsClusterLock l r
  still_cluster (Mon o) h = (still_shared o h.0, h.1)
  still_cluster (Name n) h = tt

  -- no other holds in conflict, since the step touches the lock at Read at most, and then Read is wanted
  still_free : (l : LockName) (level : Level) → NoClash touch (ActTouches u (Enter l level) Done s) → NoConflict u l level s → NoConflict u l level r
  still_free l level locks free w ne = elim (cases_thread w t) [
    | inl e ↦ subst (λ w. IsCompatible level (level_of (r.monitors (l, w)))) (sym e) (beside_read level (r.monitors (l, t)) (λ x h. locks l x level (q.held l x h) (inr (refl, refl))))
    | inr d ↦ subst (λ hold. IsCompatible level (level_of hold)) (sym (q.monitors l w d)) (free w ne)
  ]

  -- an entry is answered the same
  still_enter : (l : LockName) (level : Level) (reply : Reply) → NoClash touch (ActTouches u (Enter l level) reply s) → AnswersEnter u l level reply s → AnswersEnter u l level reply r
  still_enter l level Local locks a = still_monitor_private l a
  still_enter l level (Refused LockUpgrade) locks a = subst (λ hold. IsUpgrade level hold) (sym (q.monitors l u other)) a
  still_enter l level Done locks a = (
    still_cluster l a.0,
    (λ up. a.1 (subst (λ hold. IsUpgrade level hold) (q.monitors l u other) up)),
    elim a.2 [
      | inl held ↦ inl (λ e. held (sym (q.monitors l u other) ∙ e))
      | inr free ↦ inr (still_free l level locks free)
    ],
  )
  still_enter l level reply locks a = absurd a

  -- what is held can be left
  still_exit : (l : LockName) (reply : Reply) → AnswersExit u l reply s → AnswersExit u l reply r
  still_exit l Done a = λ e. a (sym (q.monitors l u other) ∙ e)
  still_exit l reply a = absurd a

  -- a hold at Write is one still
  still_write : (l : LockName) → HoldsWrite u l s → HoldsWrite u l r
  still_write l h = ap level_of (q.monitors l u other) ∙ h

  -- wait and notify are answered the same
  still_monitor : (l : LockName) (reply : Reply) → AnswersMonitor u l reply s → AnswersMonitor u l reply r
  still_monitor l Done a = still_write l a
  still_monitor l (Refused IllegalMonitor) a = λ h. a (sym (ap level_of (q.monitors l u other)) ∙ h)
  still_monitor l reply a = absurd a

  -- who waits still does
  still_tick : (l : LockName) (reply : Reply) → AnswersTick u l reply s → AnswersTick u l reply r
  still_tick l (Val (value.Bool woken)) a = λ e. a (sym (q.own_waits l u other) ∙ e)
  still_tick l reply a = absurd a

  -- and can still time out
  still_timeout : (l : LockName) (reply : Reply) → AnswersTimeout u l reply s → AnswersTimeout u l reply r
  still_timeout l Done a = λ e. a (sym (q.own_waits l u other) ∙ e)
  still_timeout l (Val (value.Bool true)) a = λ e. a (sym (q.own_waits l u other) ∙ e)
  still_timeout l reply a = absurd a

  -- who could go on still can
  still_resume : (l : LockName) (reply : Reply) → NoClash touch (ActTouches u (Resume l) reply s) → AnswersResume u l reply s → AnswersResume u l reply r
  still_resume l Done locks a =
      let never : (x : Level) → touch l x → ⊥ = λ x w. let e = (locks l x Write w (inr (refl, refl))).1 in cc e in (
        (λ e. a.0 (sym (q.own_waits l u other) ∙ e)),
        λ w. elim (cases_thread w t) [
          | inl e ↦ subst (λ w. r.monitors (l, w) ≡ None) (sym e) (none_held (r.monitors (l, t)) (λ x h. never x (q.held l x h)))
          | inr d ↦ q.monitors l w d ∙ a.1 w
        ],
      )
  still_resume l reply locks a = absurd a

  -- who could end still can
  still_end : (reply : Reply) → AnswersEnd u reply s → AnswersEnd u reply r
  still_end Done a = still_nothing a
  still_end reply a = absurd a

  -- each reply is still possible
  still_answers : (request : Request) (reply : Reply) → NoClash touch (ActTouches u request reply s) → NoCommonId makes (ActMakes request reply) → AnswersRequest shape u request reply s → AnswersRequest shape u request reply r
  still_answers (New class n) reply locks ids a = still_new class n reply ids a
  still_answers (Look o) reply locks ids a = still_look o reply a
  still_answers (Get o f) reply locks ids a = still_get o f reply locks a
  still_answers (Put o f v) reply locks ids a = still_put o f reply a
  still_answers (Enter l level) reply locks ids a = still_enter l level reply locks a
  still_answers (Exit l) reply locks ids a = still_exit l reply a
  still_answers (Wait l) reply locks ids a = still_monitor l reply a
  still_answers (Tick l) reply locks ids a = still_tick l reply a
  still_answers (Timeout l) reply locks ids a = still_timeout l reply a
  still_answers (Resume l) reply locks ids a = still_resume l reply locks a
  still_answers (Notify l) reply locks ids a = still_monitor l reply a
  still_answers (NotifyAll l) reply locks ids a = still_monitor l reply a
  still_answers (Print v) reply locks ids a = a
  still_answers (End fault) reply locks ids a = still_end reply a
  still_answers Pause reply locks ids a = a
  still_answers Settle reply locks ids a = a

  -- who was awake still is
  still_awake : (request : Request) → IsAwakeFor request u s → IsAwakeFor request u r
  still_awake (Tick l) a = tt
  still_awake (Timeout l) a = tt
  still_awake (Resume l) a = tt
  still_awake request a = λ l. q.own_waits l u other ∙ a l

  -- the act is still possible, whatever is marked
  pub still : (request : Request) (reply : Reply) → NoClash touch (ActTouches u request reply s) → NoCommonId makes (ActMakes request reply) → IsPossibleButMarks shape u request reply s → IsPossibleButMarks shape u request reply r
  still request reply locks ids p = record {
    connected = q.lost u.client ∙ p.connected;
    going = q.ended u other ∙ p.going;
    awake = still_awake request p.awake;
    answers = still_answers request reply locks ids p.answers;
  }
