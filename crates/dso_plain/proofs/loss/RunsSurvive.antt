-- What other clients' threads may do they may still do after the loss of a client.
use Rattle.std.proofs.Common.{ℕ, ◌≡◌, ◌≢◌, ◌↔◌, inl, inr, refl, sym, ◌∙◌, ap, subst, Bool, true, false, cond, eqb, ◌&&◌, is_some, Option, Some, None, List, [], ◌∷◌}
use Rattle.std.proofs.Math.Path.{fun_ext}
use Rattle.std.proofs.lemmas.Bool.{ne_eqb, cases_eq}
use Rattle.dso_base.specs.declared.lock.Level.{Level}
use Rattle.dso_base.specs.declared.lock.LockName.{LockName}
use Rattle.dso_base.specs.declared.lock.LockName.TheVariants.{Mon, Name}
use Rattle.dso_base.specs.declared.lock.ThreadId.{ThreadId}
use Rattle.dso_base.specs.declared.request.Event.{Event}
use Rattle.dso_base.specs.declared.request.Event.TheVariants.{Act, Lost}
use Rattle.dso_base.specs.declared.request.Fault.TheVariants.{UnlockedSharedObject, WrongLock, ReadOnly, LockUpgrade, IllegalMonitor}
use Rattle.dso_base.specs.declared.request.Reply.{Reply}
use Rattle.dso_base.specs.declared.request.Reply.TheVariants.{Done, Made, Seen, Val, Local, Refused}
use Rattle.dso_base.specs.declared.request.Request.{Request}
use Rattle.dso_base.specs.declared.request.Request.TheVariants.{New, Look, Get, Put, Enter, Exit, Wait, Tick, Timeout, Resume, Notify, NotifyAll, Print, End, Pause, Settle}
use Rattle.dso_base.specs.declared.shape.Shape.{Shape}
use Rattle.dso_base.specs.declared.value.Value.{Value}
use Rattle.dso_base.specs.declared.value.Value.TheVariants as value
use Rattle.dso_plain.specs.KeyTests.{is_lock, is_place}
use Rattle.dso_lookup.specs.Maps.{writes, or_old, written}
use Rattle.dso_plain.specs.State.{Hold, PlainState, is_shared, level_of, guard_in, hold_on_guard}
use Rattle.dso_plain.specs.Possible.{IsPossible, May, MayButMarks, AnswersRequest, AnswersNew, AnswersLook, AnswersGet, MayPut, IsPrivateMonitor, IsClusterLock, AnswersEnter, AnswersExit, AnswersMonitor, AnswersTick, AnswersTimeout, AnswersResume, AnswersEnd, IsCompatible, NoConflict, IsUpgrade, FindsMark, Wakes, IsAwakeFor, IsUnmarkedWaiter}
use Rattle.dso_plain.specs.After.{nothing, change_of, apply, after, loses, put, read, read_shared, notifies_all, entered, exited, count_of, resumed}
use Rattle.dso_plain.specs.History.{Runs, RunsButMarks, end_of}
use Rattle.dso_plain.specs.Touches.{ActTouches, Touches, TouchesIn}
use Rattle.dso_plain.specs.Loss.{WakesNoneOf, IsApartFrom, AreApartFrom, SurvivesLoss}
use Rattle.dso_plain.proofs.histories.RunKinds.{may_but_marks}
use Rattle.dso_plain.proofs.keys.SameKeys.{Wherever, none, written_there, same_number, number_self, same_place}
use Rattle.dso_plain.proofs.independence.ChangesCommute.{AreDisjoint, apply_swap}
use Rattle.dso_plain.proofs.independence.WritesGuarded.{guarded}

-- what the loss clears is cleared, and the rest is as it was
cleared_or_same : {A : Type 0} (P : A → Type 0) (b : Bool) (gone was : A) → P gone → P was → P (or_old (cond b (Some gone) None) was)
cleared_or_same P true gone was g w = g
cleared_or_same P false gone was g w = w

-- of another client's thread nothing is cleared
pub not_cleared : {A : Type 0} (w client : ℕ) (gone was : A) → w ≢ client → or_old (cond (eqb w client) (Some gone) None) was ≡ was
not_cleared w client gone was ne = ap (λ b. or_old (cond b (Some gone) None) was) (ne_eqb w client ne)

-- of a thread of the lost client all is cleared
is_cleared : {A : Type 0} (w client : ℕ) (gone was : A) → w ≡ client → or_old (cond (eqb w client) (Some gone) None) was ≡ gone
is_cleared w client gone was e = ap (λ x. or_old (cond (eqb x client) (Some gone) None) was) e ∙ ap (λ b. or_old (cond b (Some gone) None) was) (number_self client)

-- the state after the loss
abbrev pub left : ℕ → PlainState → PlainState
left client s = apply (loses client) s

-- the same waiters are marked by a notification of all, be it before the loss or after it
marks_case : (a b : Bool) (asleep : Option ℕ) (mark : Bool) → or_old (cond (a && is_some (or_old (cond b (Some None) None) asleep)) (Some true) None) (or_old (cond b (Some false) None) mark) ≡ or_old (cond b (Some false) None) (or_old (cond (a && is_some asleep) (Some true) None) mark)
marks_case true true asleep mark = refl
marks_case false true asleep mark = refl
marks_case a false asleep mark = refl

module _ (shape : Shape) (client : ℕ) (s : PlainState) (t : ThreadId) (other : t.client ≢ client) where
  -- how t holds a lock is as it was
  pub same_hold : (l : LockName) → (left client s).monitors (l, t) ≡ s.monitors (l, t)
  same_hold l = not_cleared t.client client None (s.monitors (l, t)) other

  -- and how it waits
  same_wait : (l : LockName) → (left client s).asleep (l, t) ≡ s.asleep (l, t)
  same_wait l = not_cleared t.client client None (s.asleep (l, t)) other

  -- and whether it is marked
  same_mark : (l : LockName) → (left client s).marked (l, t) ≡ s.marked (l, t)
  same_mark l = not_cleared t.client client false (s.marked (l, t)) other

  -- a read gives the same
  still_get : (o f : ℕ) (reply : Reply) → AnswersGet shape t o f reply s → AnswersGet shape t o f reply (left client s)
  still_get o f (Val v) (inl a) = inl a
  still_get o f (Val v) (inr (inl a)) = inr (inl (a.0, (λ e. a.1 (sym (same_hold (guard_in shape s o f)) ∙ e)), a.2))
  still_get o f (Val v) (inr (inr a)) = inr (inr (a.0, same_hold (guard_in shape s o f) ∙ a.1, a.2))
  still_get o f reply a = absurd a

  -- a put is answered the same
  still_put : (o f : ℕ) (reply : Reply) → MayPut shape t o f reply s → MayPut shape t o f reply (left client s)
  still_put o f Done (inl own) = inl own
  still_put o f Done (inr h) = inr (h.0, ap level_of (same_hold (guard_in shape s o f)) ∙ h.1)
  still_put o f (Refused UnlockedSharedObject) h = (h.0, λ l. same_hold l ∙ h.1 l)
  still_put o f (Refused ReadOnly) h = (h.0, ap level_of (same_hold (guard_in shape s o f)) ∙ h.1)
  still_put o f (Refused WrongLock) h = (h.0, (h.1.0, λ e. h.1.1 (sym (same_hold h.1.0) ∙ e)), same_hold (guard_in shape s o f) ∙ h.2)
  still_put o f reply h = absurd h

  -- fewer hold in conflict
  still_free : (l : LockName) (level : Level) → NoConflict t l level s → NoConflict t l level (left client s)
  still_free l level free w ne = cleared_or_same (λ hold. IsCompatible level (level_of hold)) (eqb w.client client) None (s.monitors (l, w)) tt (free w ne)

  -- an entry is answered the same
  still_enter : (l : LockName) (level : Level) (reply : Reply) → AnswersEnter t l level reply s → AnswersEnter t l level reply (left client s)
  still_enter l level Local a = still_local l a
    where
      still_local : (l : LockName) → IsPrivateMonitor t l s → IsPrivateMonitor t l (left client s)
      still_local (Mon o) a = a
      still_local (Name n) a = absurd a
  still_enter l level (Refused LockUpgrade) a = subst (λ hold. IsUpgrade level hold) (sym (same_hold l)) a
  still_enter l level Done a = (
    still_cluster l a.0,
    (λ up. a.1 (subst (λ hold. IsUpgrade level hold) (same_hold l) up)),
    elim a.2 [
      | inl held ↦ inl (λ e. held (sym (same_hold l) ∙ e))
      | inr free ↦ inr (still_free l level free)
    ],
  )
    where
      still_cluster : (l : LockName) → IsClusterLock l s → IsClusterLock l (left client s)
      still_cluster (Mon o) a = a
      still_cluster (Name n) a = tt
  still_enter l level reply a = absurd a

  -- what is held can be left
  still_exit : (l : LockName) (reply : Reply) → AnswersExit t l reply s → AnswersExit t l reply (left client s)
  still_exit l Done a = λ e. a (sym (same_hold l) ∙ e)
  still_exit l reply a = absurd a

  -- wait and notify are answered the same
  still_monitor : (l : LockName) (reply : Reply) → AnswersMonitor t l reply s → AnswersMonitor t l reply (left client s)
  still_monitor l Done a = ap level_of (same_hold l) ∙ a
  still_monitor l (Refused IllegalMonitor) a = λ h. a (sym (ap level_of (same_hold l)) ∙ h)
  still_monitor l reply a = absurd a

  -- who waits still does
  still_tick : (l : LockName) (reply : Reply) → AnswersTick t l reply s → AnswersTick t l reply (left client s)
  still_tick l (Val (value.Bool woken)) a = λ e. a (sym (same_wait l) ∙ e)
  still_tick l reply a = absurd a

  -- and can still time out
  still_timeout : (l : LockName) (reply : Reply) → AnswersTimeout t l reply s → AnswersTimeout t l reply (left client s)
  still_timeout l Done a = λ e. a (sym (same_wait l) ∙ e)
  still_timeout l (Val (value.Bool true)) a = λ e. a (sym (same_wait l) ∙ e)
  still_timeout l reply a = absurd a

  -- who could go on still can
  still_resume : (l : LockName) (reply : Reply) → AnswersResume t l reply s → AnswersResume t l reply (left client s)
  still_resume l Done a = (
    (λ e. a.0 (sym (same_wait l) ∙ e)),
    λ w. cleared_or_same (λ hold. hold ≡ None) (eqb w.client client) None (s.monitors (l, w)) refl (a.1 w),
  )
  still_resume l reply a = absurd a

  -- who could end still can
  still_end : (reply : Reply) → AnswersEnd t reply s → AnswersEnd t reply (left client s)
  still_end Done a = λ l. same_hold l ∙ a l
  still_end reply a = absurd a

  -- each reply is still possible
  pub still_answers : (request : Request) (reply : Reply) → AnswersRequest shape t request reply s → AnswersRequest shape t request reply (left client s)
  still_answers (New class n) reply a = by reply a
    where
      by : (reply : Reply) → AnswersNew shape class n reply s → AnswersNew shape class n reply (left client s)
      by (Made o) a = a
      by reply a = absurd a
  still_answers (Look o) reply a = by reply a
    where
      by : (reply : Reply) → AnswersLook t o reply s → AnswersLook t o reply (left client s)
      by (Seen class n) a = a
      by reply a = absurd a
  still_answers (Get o f) reply a = still_get o f reply a
  still_answers (Put o f v) reply a = (a.0, still_put o f reply a.1)
  still_answers (Enter l level) reply a = still_enter l level reply a
  still_answers (Exit l) reply a = still_exit l reply a
  still_answers (Wait l) reply a = still_monitor l reply a
  still_answers (Tick l) reply a = still_tick l reply a
  still_answers (Timeout l) reply a = still_timeout l reply a
  still_answers (Resume l) reply a = still_resume l reply a
  still_answers (Notify l) reply a = still_monitor l reply a
  still_answers (NotifyAll l) reply a = still_monitor l reply a
  still_answers (Print v) reply a = a
  still_answers (End fault) reply a = still_end reply a
  still_answers Pause reply a = a
  still_answers Settle reply a = a

  -- who was awake still is
  pub still_awake : (request : Request) → IsAwakeFor request t s → IsAwakeFor request t (left client s)
  still_awake (Tick l) a = tt
  still_awake (Timeout l) a = tt
  still_awake (Resume l) a = tt
  still_awake request a = λ l. same_wait l ∙ a l

  -- who found its mark still does
  pub still_finds : (request : Request) (reply : Reply) → FindsMark request reply t s → FindsMark request reply t (left client s)
  still_finds (Tick l) (Val (value.Bool true)) a = same_mark l ∙ a
  still_finds (Tick l) reply a = tt
  still_finds (Timeout l) (Val (value.Bool true)) a = same_mark l ∙ a
  still_finds (Timeout l) reply a = tt
  still_finds (Resume l) reply a = same_mark l ∙ a
  still_finds request reply a = a

-- The waiters left are those of other clients.
pub waiters_left : (client : ℕ) (s : PlainState) (l : LockName) (w : ThreadId) → IsUnmarkedWaiter l w (left client s) ↔ (IsUnmarkedWaiter l w s × (w.client ≢ client))
waiters_left client s l w = (
  (λ h. elim (cases_eq w.client client) [
    | inl e ↦ absurd (h.0 (is_cleared w.client client None (s.asleep (l, w)) e))
    | inr ne ↦ (((λ e. h.0 (not_cleared w.client client None (s.asleep (l, w)) ne ∙ e)), sym (not_cleared w.client client false (s.marked (l, w)) ne) ∙ h.1), ne)
  ]),
  λ h. ((λ e. h.0.0 (sym (not_cleared w.client client None (s.asleep (l, w)) h.1) ∙ e)), not_cleared w.client client false (s.marked (l, w)) h.1 ∙ h.0.1),
)

-- the request is not a notification of all
abbrev NotAll : Request → Type 0
NotAll (NotifyAll l) = ⊥
NotAll request = Unit {0}

module _ (shape : Shape) (client : ℕ) (s : PlainState) (t : ThreadId) (other : t.client ≢ client) where
  -- who could be woken and is of another client still can
  still_wakes : (request : Request) (reply : Reply) (woken : Option ThreadId) → WakesNoneOf client woken → Wakes request reply woken s → Wakes request reply woken (left client s)
  still_wakes (Notify l) Done None apart nobody = λ w h. nobody w ((waiters_left client s l w).0 h).0
  still_wakes (Notify l) Done (Some w) apart h = (waiters_left client s l w).1 (h, apart)
  still_wakes request reply woken apart e = e

  -- an act that wakes whom it may is still possible
  possible_with : (request : Request) (reply : Reply) (before chosen : Option ThreadId) → IsPossible shape t request reply before s → Wakes request reply chosen (left client s) → IsPossible shape t request reply chosen (left client s)
  possible_with request reply before chosen p wakes = record {
    connected = not_cleared t.client client true (s.lost t.client) other ∙ p.connected;
    going = p.going;
    awake = still_awake shape client s t other request p.awake;
    answers = still_answers shape client s t other request reply p.answers;
    finds = still_finds shape client s t other request reply p.finds;
    wakes = wakes;
  }

  -- where it writes marks they are of other clients
  marks_at : (l : LockName) (w : ThreadId) (mark : Bool) → w.client ≢ client → Wherever (writes (is_place l w) (λ _. mark)) (λ key _. key.1.client ≢ client)
  marks_at l w mark ne key v e = λ d. ne (sym (ap (λ k. k.1.client) (same_place l w key (written_there (is_place l w) (λ _. mark) key v e).0)) ∙ d)

  -- a put marks nobody
  marks_put : (o f : ℕ) (v : Value) (b : Bool) → Wherever (put t o f v b s).marked (λ key _. key.1.client ≢ client)
  marks_put o f v true key x e = none e
  marks_put o f v false key x e = none e

  -- a read of a shared object marks nobody
  marks_read_shared : (o f : ℕ) (hold : Option Hold) → Wherever (read_shared t o f hold s).marked (λ key _. key.1.client ≢ client)
  marks_read_shared o f None key x e = none e
  marks_read_shared o f (Some hold) key x e = none e

  -- nor does any read
  marks_read : (o f : ℕ) (b : Bool) → Wherever (read shape t o f b s).marked (λ key _. key.1.client ≢ client)
  marks_read o f true key x e = marks_read_shared o f (hold_on_guard shape t o f s) key x e
  marks_read o f false key x e = none e

  -- so no act but a notification of all marks a thread of the client
  marks : (request : Request) (reply : Reply) (woken : Option ThreadId) → NotAll request → WakesNoneOf client woken → Wherever (change_of shape t request reply woken s).marked (λ key _. key.1.client ≢ client)
  marks (NotifyAll l) reply woken n apart key v e = absurd n
  marks (New class m) (Made o) woken n apart key v e = none e
  marks (Get o f) (Val x) woken n apart key v e = marks_read o f (is_shared (s.objects o)) key v e
  marks (Put o f x) Done woken n apart key v e = marks_put o f x (is_shared (s.objects o)) key v e
  marks (Enter l level) Done woken n apart key v e = none e
  marks (Exit l) Done woken n apart key v e = none e
  marks (Wait l) Done woken n apart key v e = marks_at l t false other key v e
  marks (Timeout l) Done woken n apart key v e = marks_at l t true other key v e
  marks (Resume l) Done woken n apart key v e = marks_at l t false other key v e
  marks (Notify l) Done None n apart key v e = none e
  marks (Notify l) Done (Some w) n apart key v e = marks_at l w true apart key v e
  marks (Print x) Done woken n apart key v e = none e
  marks (End fault) Done woken n apart key v e = none e
  marks request reply woken n apart key v e = none e

  -- what the act writes and what the loss clears have no key in common
  apart_from_loss : (request : Request) (reply : Reply) (woken : Option ThreadId) → AnswersRequest shape t request reply s → NotAll request → WakesNoneOf client woken → AreDisjoint (change_of shape t request reply woken s) (loses client)
  apart_from_loss request reply woken a n apart =
      let g = guarded shape t s request reply woken a in
      record {
        objects = λ key v w d e. none e;
        made = λ key v w d e. none e;
        heap = λ key v w d e. none e;
        past = λ key v w d e. none e;
        seen = λ key v w d e. none e;
        monitors = λ key v w d e. never key (g.monitors key v d).0 (written_there (λ key. eqb key.1.client client) (λ _. None) key w e).0;
        asleep = λ key v w d e. never key (g.asleep key v d).0 (written_there (λ key. eqb key.1.client client) (λ _. None) key w e).0;
        marked = λ key v w d e. absurd (marks request reply woken n apart key v d (same_number key.1.client client (written_there (λ key. eqb key.1.client client) (λ _. false) key w e).0));
        output = λ key v w d e. none e;
        ended = λ key v w d e. none e;
        lost = λ key v w d e. g.lost key v d;
      }
    where
      never : (key : LockName × ThreadId) → key.1 ≡ t → eqb key.1.client client ≡ true → ⊥
      never key e d = other (sym (ap (λ x. x.client) e) ∙ same_number key.1.client client d)

  -- a read of a shared object writes the same
  alike_read_shared : (o f : ℕ) (hold : Option Hold) → read_shared t o f hold (left client s) ≡ read_shared t o f hold s
  alike_read_shared o f None = refl
  alike_read_shared o f (Some hold) = refl

  -- and so does any read
  alike_read : (o f : ℕ) (b : Bool) → read shape t o f b (left client s) ≡ read shape t o f b s
  alike_read o f true = ap (λ hold. read_shared t o f hold (left client s)) (same_hold shape client s t other (guard_in shape s o f)) ∙ alike_read_shared o f (hold_on_guard shape t o f s)
  alike_read o f false = refl

  -- and a put
  alike_put : (o f : ℕ) (v : Value) (b : Bool) → put t o f v b (left client s) ≡ put t o f v b s
  alike_put o f v true = refl
  alike_put o f v false = refl

  -- the act writes the same
  alike : (request : Request) (reply : Reply) (woken : Option ThreadId) → NotAll request → change_of shape t request reply woken (left client s) ≡ change_of shape t request reply woken s
  alike (NotifyAll l) reply woken n = absurd n
  alike (New class m) (Made o) woken n = refl
  alike (Get o f) (Val x) woken n = alike_read o f (is_shared (s.objects o))
  alike (Put o f x) Done woken n = alike_put o f x (is_shared (s.objects o))
  alike (Enter l level) Done woken n = ap (λ hold. record nothing { monitors = writes (is_place l t) (λ key. entered level hold) }) (same_hold shape client s t other l)
  alike (Exit l) Done woken n = ap (λ hold. record nothing { monitors = writes (is_place l t) (λ key. exited hold) }) (same_hold shape client s t other l)
  alike (Wait l) Done woken n = ap (λ hold. record nothing {
    monitors = writes (is_place l t) (λ key. None);
    asleep = writes (is_place l t) (λ key. Some (count_of hold));
    marked = writes (is_place l t) (λ key. false);
  }) (same_hold shape client s t other l)
  alike (Resume l) Done woken n = ap (λ count. record nothing {
    monitors = writes (is_place l t) (λ key. resumed count);
    asleep = writes (is_place l t) (λ key. None);
    marked = writes (is_place l t) (λ key. false);
  }) (same_wait shape client s t other l)
  alike (Timeout l) Done woken n = refl
  alike (Notify l) Done woken n = refl
  alike (Print x) Done woken n = refl
  alike (End fault) Done woken n = refl
  alike request reply woken n = refl

  -- any other act than a notification of all comes to the same before and after the loss
  swap_one : (request : Request) (reply : Reply) (woken : Option ThreadId) → AnswersRequest shape t request reply s → NotAll request → WakesNoneOf client woken → apply (change_of shape t request reply woken (left client s)) (left client s) ≡ left client (apply (change_of shape t request reply woken s) s)
  swap_one request reply woken a n apart =
      ap (λ c. apply c (left client s)) (alike request reply woken n)
      ∙ sym (apply_swap (change_of shape t request reply woken s) (loses client) s (apart_from_loss request reply woken a n apart))

  -- and so does that
  swap_all : (l : LockName) → apply (notifies_all l (left client s)) (left client s) ≡ left client (apply (notifies_all l s) s)
  swap_all l =
      let marks : written (notifies_all l (left client s)).marked (left client s).marked ≡ written (loses client).marked (written (notifies_all l s).marked s.marked) = fun_ext (λ key. marks_case (is_lock l key.0) (eqb key.1.client client) (s.asleep key) (s.marked key)) in
      λ i. record (left client s) { marked = marks i }

  -- any act comes to the same before and after the loss
  pub swap : (request : Request) (reply : Reply) (woken : Option ThreadId) → AnswersRequest shape t request reply s → WakesNoneOf client woken → apply (change_of shape t request reply woken (left client s)) (left client s) ≡ left client (apply (change_of shape t request reply woken s) s)
  swap (NotifyAll l) Done woken a apart = swap_all l
  swap (NotifyAll l) reply woken a apart = refl
  swap request reply woken a apart = swap_one request reply woken a tt apart

-- what is so of one event, whatever is marked
record OneSurvives (shape : Shape) (client : ℕ) (e : Event) (s : PlainState) : Type 0 where
  may : MayButMarks shape e (left client s)
  same_end : after shape e (left client s) ≡ left client (after shape e s)
  touches : (l : LockName) (x : Level) → Touches e (left client s) l x → Touches e s l x

-- each event of another client is so
event_survives : (shape : Shape) (client : ℕ) (e : Event) (s : PlainState) → MayButMarks shape e s → IsApartFrom client e → OneSurvives shape client e s
event_survives shape client (Lost lost) s m apart = absurd apart
event_survives shape client (Act t request reply woken) s m apart = record {
  may = record {
    connected = not_cleared t.client client true (s.lost t.client) apart.0 ∙ m.connected;
    going = m.going;
    awake = still_awake shape client s t apart.0 request m.awake;
    answers = still_answers shape client s t apart.0 request reply m.answers;
  };
  same_end = swap shape client s t apart.0 request reply woken m.answers apart.1;
  touches = λ l x. touched l x;
}
  where
    touched : (l : LockName) (x : Level) → ActTouches t request reply (left client s) l x → ActTouches t request reply s l x
    touched l x (inl e) = inl (sym (ap level_of (same_hold shape client s t apart.0 l)) ∙ e)
    touched l x (inr e) = inr e

-- a run of other clients survives the loss, whatever is marked
pub loss : (shape : Shape) (client : ℕ) (es : List Event) (s : PlainState) → RunsButMarks shape es s → AreApartFrom client es → SurvivesLoss shape client es s
loss shape client [] s m apart = record { still_runs = tt; same_end = refl; touches = λ l x k. k }
loss shape client (e ∷ es) s m apart =
    let one = event_survives shape client e s m.0 apart.0 in
    let rest = loss shape client es (after shape e s) m.1 apart.1 in
    record {
      still_runs = (one.may, subst (λ z. RunsButMarks shape es z) (sym one.same_end) rest.still_runs);
      same_end = ap (λ z. end_of shape es z) one.same_end ∙ rest.same_end;
      touches = λ l x. touched l x one rest;
    }
  where
    touched : (l : LockName) (x : Level) → OneSurvives shape client e s → SurvivesLoss shape client es (after shape e s) → TouchesIn shape (e ∷ es) (left client s) l x → TouchesIn shape (e ∷ es) s l x
    touched l x one rest (inl k) = inl (one.touches l x k)
    touched l x one rest (inr k) = inr (rest.touches l x (subst (λ z. TouchesIn shape es z l x) one.same_end k))

-- an event that finds its marks still does
may_still : (shape : Shape) (client : ℕ) (e : Event) (s : PlainState) → May shape e s → IsApartFrom client e → May shape e (left client s)
may_still shape client (Lost lost) s m apart = absurd apart
may_still shape client (Act t request reply woken) s m apart = possible_with shape client s t apart.0 request reply woken woken m (still_wakes shape client s t apart.0 request reply woken apart.1 m.wakes)

-- and so does a run
pub marks_after_loss : (shape : Shape) (client : ℕ) (es : List Event) (s : PlainState) → Runs shape es s → AreApartFrom client es → Runs shape es (left client s)
marks_after_loss shape client [] s m apart = tt
marks_after_loss shape client (e ∷ es) s m apart =
    let one = event_survives shape client e s (may_but_marks shape e s m.0) apart.0 in
    (may_still shape client e s m.0 apart.0, subst (λ z. Runs shape es z) (sym one.same_end) (marks_after_loss shape client es (after shape e s) m.1 apart.1))

-- a notification chooses among the waiters left
pub choice_after_loss : (shape : Shape) (client : ℕ) (s : PlainState) (t : ThreadId) (l : LockName) (before chosen : Option ThreadId) → t.client ≢ client → IsPossible shape t (Notify l) Done before s → IsPossible shape t (Notify l) Done chosen (left client s) ↔ Wakes (Notify l) Done chosen (left client s)
choice_after_loss shape client s t l before chosen other p = (
  (λ h. h.wakes),
  possible_with shape client s t other (Notify l) Done before chosen p,
)
