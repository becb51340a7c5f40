-- Runs that are apart, and in which nobody times out, find behind each other the marks that they ask for.
use Rattle.std.proofs.Common.{ℕ, ◌≡◌, ◌≢◌, inl, inr, refl, sym, ◌∙◌, ap, subst, Bool, true, false, ◌&&◌, is_some, Option, Some, None, List, [], ◌∷◌}
use Rattle.dso_base.specs.declared.lock.Level.{Level}
use Rattle.dso_base.specs.declared.lock.Level.TheVariants.{Write}
use Rattle.dso_base.specs.declared.lock.LockName.{LockName}
use Rattle.dso_base.specs.declared.lock.ThreadId.{ThreadId}
use Rattle.dso_base.specs.declared.request.Event.{Event}
use Rattle.dso_base.specs.declared.request.Event.TheVariants.{Act, Lost}
use Rattle.dso_base.specs.declared.request.Reply.{Reply}
use Rattle.dso_base.specs.declared.request.Reply.TheVariants.{Done, Made, Val}
use Rattle.dso_base.specs.declared.request.Request.{Request}
use Rattle.dso_base.specs.declared.request.Request.TheVariants.{New, Get, Put, Enter, Exit, Wait, Tick, Timeout, Resume, Notify, NotifyAll, Print, End}
use Rattle.dso_base.specs.declared.shape.Shape.{Shape}
use Rattle.dso_base.specs.declared.value.Value.{Value}
use Rattle.dso_base.specs.declared.value.Value.TheVariants as value
use Rattle.dso_plain.specs.KeyTests.{is_lock, is_place}
use Rattle.dso_lookup.specs.Maps.{writes}
use Rattle.dso_plain.specs.State.{Hold, PlainState, is_shared, hold_on_guard}
use Rattle.dso_plain.specs.Possible.{AnswersRequest, FindsMark, Wakes, IsUnmarkedWaiter, MayButMarks, FitsMarks}
use Rattle.dso_plain.specs.After.{change_of, after, put, read, read_shared}
use Rattle.dso_plain.specs.History.{Runs, ChoicesFit, end_of}
use Rattle.dso_plain.specs.Touches.{ActTouches, ActMakes, TimesOut, NobodyTimesOut, NoClash}
use Rattle.dso_plain.specs.Laws.{AreApart}
use Rattle.dso_plain.proofs.keys.SameKeys.{Wherever, none, unwritten, written_there, same_place, same_lock}
use Rattle.dso_lookup.proofs.Tests.{both}
use Rattle.dso_plain.proofs.independence.LeavesOthers.{IsQuiet, not_both}
use Rattle.dso_plain.proofs.independence.StaysPossible.{cases_thread}
use Rattle.dso_plain.proofs.independence.RunsSwap.{quiet_act, swapped, Strangers, square, Front, first_strangers, front_after, front_of, apart_after, behind, diamond}
use Rattle.dso_plain.proofs.histories.RunKinds.{choices_fit, runs_with_marks}

module _ (shape : Shape) (t : ThreadId) (s : PlainState) where
  -- a put writes no mark
  put_marks_nobody : (P : LockName × ThreadId → Bool → Type 0) (o f : ℕ) (v : Value) (b : Bool) → Wherever (put t o f v b s).marked P
  put_marks_nobody P o f v true key x e = none e
  put_marks_nobody P o f v false key x e = none e

  -- nor does a read of a shared object
  read_shared_marks_nobody : (P : LockName × ThreadId → Bool → Type 0) (o f : ℕ) (hold : Option Hold) → Wherever (read_shared t o f hold s).marked P
  read_shared_marks_nobody P o f None key x e = none e
  read_shared_marks_nobody P o f (Some hold) key x e = none e

  -- nor any read
  read_marks_nobody : (P : LockName × ThreadId → Bool → Type 0) (o f : ℕ) (b : Bool) → Wherever (read shape t o f b s).marked P
  read_marks_nobody P o f true key x e = read_shared_marks_nobody P o f (hold_on_guard shape t o f s) key x e
  read_marks_nobody P o f false key x e = none e

  -- a mark at a place of a lock is written where that lock is touched
  at_lock : (request : Request) (reply : Reply) (l : LockName) (w : ThreadId) (mark : Bool) → ActTouches t request reply s l Write → Wherever (writes (is_place l w) (λ _. mark)) (λ key _. ActTouches t request reply s key.0 Write)
  at_lock request reply l w mark h key v e = subst (λ k. ActTouches t request reply s k Write) (sym (ap (λ k. k.0) (same_place l w key (written_there (is_place l w) (λ _. mark) key v e).0))) h

  -- an act that does not time out writes marks of locks alone that it touches at Write
  marks_touched : (request : Request) (reply : Reply) (woken : Option ThreadId) → (TimesOut (Act t request reply woken) → ⊥) → AnswersRequest shape t request reply s → Wherever (change_of shape t request reply woken s).marked (λ key _. ActTouches t request reply s key.0 Write)
  marks_touched (New class n) (Made o) woken never a key v e = none e
  marks_touched (Get o f) (Val x) woken never a key v e = read_marks_nobody (λ key _. ActTouches t (Get o f) (Val x) s key.0 Write) o f (is_shared (s.objects o)) key v e
  marks_touched (Put o f x) Done woken never a key v e = put_marks_nobody (λ key _. ActTouches t (Put o f x) Done s key.0 Write) o f x (is_shared (s.objects o)) key v e
  marks_touched (Enter l level) Done woken never a key v e = none e
  marks_touched (Exit l) Done woken never a key v e = none e
  marks_touched (Wait l) Done woken never a key v e = at_lock (Wait l) Done l t false (inl a) key v e
  marks_touched (Timeout l) Done woken never a key v e = absurd (never tt)
  marks_touched (Resume l) Done woken never a key v e = at_lock (Resume l) Done l t false (inr (refl, refl)) key v e
  marks_touched (Notify l) Done None never a key v e = none e
  marks_touched (Notify l) Done (Some w) never a key v e = at_lock (Notify l) Done l w true (inl a) key v e
  marks_touched (NotifyAll l) Done woken never a key v e =
      let there = written_there (λ key. is_lock l key.0 && is_some (s.asleep key)) (λ _. true) key v e in
      subst (λ k. ActTouches t (NotifyAll l) Done s k Write) (sym (same_lock l key.0 (both (is_lock l key.0) (is_some (s.asleep key)) there.0).0)) (inl a)
  marks_touched (Print x) Done woken never a key v e = none e
  marks_touched (End fault) Done woken never a key v e = none e
  marks_touched request reply woken never a key v e = none e

-- a step of t from s to r, and a thread u other than t
module _ (shape : Shape) (t u : ThreadId) (touch : LockName → Level → Type 0) (makes : ℕ → Type 0) (s r : PlainState) (other : u ≢ t) (q : IsQuiet shape t touch makes s r) where
  -- who found its mark still does
  still_finds : (request : Request) (reply : Reply) → FindsMark request reply u s → FindsMark request reply u r
  still_finds (Tick l) (Val (value.Bool true)) a = q.stays_marked l u other a
  still_finds (Tick l) reply a = tt
  still_finds (Timeout l) (Val (value.Bool true)) a = q.stays_marked l u other a
  still_finds (Timeout l) reply a = tt
  still_finds (Resume l) reply a = q.stays_marked l u other a
  still_finds request reply a = a

  module _ (own_same : (l : LockName) → (touch l Write → ⊥) → r.marked (l, t) ≡ s.marked (l, t)) where
    -- under a lock that t does not touch at Write the marks are as they were
    same_mark : (l : LockName) (w : ThreadId) → (touch l Write → ⊥) → r.marked (l, w) ≡ s.marked (l, w)
    same_mark l w free = elim (cases_thread w t) [
      | inl e ↦ subst (λ v. r.marked (l, v) ≡ s.marked (l, v)) (sym e) (own_same l free)
      | inr ne ↦ q.marked l w ne free
    ]

    -- an unmarked waiter of such a lock is one still
    still_waits : (l : LockName) (w : ThreadId) → (touch l Write → ⊥) → IsUnmarkedWaiter l w s → IsUnmarkedWaiter l w r
    still_waits l w free h = ((λ e. h.0 (sym (q.asleep l w free) ∙ e)), same_mark l w free ∙ h.1)

    -- and was one before
    waited_before : (l : LockName) (w : ThreadId) → (touch l Write → ⊥) → IsUnmarkedWaiter l w r → IsUnmarkedWaiter l w s
    waited_before l w free h = ((λ e. h.0 (q.asleep l w free ∙ e)), sym (same_mark l w free) ∙ h.1)

    -- so an act of u can wake whom it could wake
    still_wakes : (request : Request) (reply : Reply) (woken : Option ThreadId) → NoClash touch (ActTouches u request reply s) → AnswersRequest shape u request reply s → Wakes request reply woken s → Wakes request reply woken r
    still_wakes (Notify l) Done None locks a nobody = λ w h. nobody w (waited_before l w (λ k. not_both touch (ActTouches u (Notify l) Done s) locks l k (inl a)) h)
    still_wakes (Notify l) Done (Some w) locks a h = still_waits l w (λ k. not_both touch (ActTouches u (Notify l) Done s) locks l k (inl a)) h
    still_wakes request reply woken locks a e = e

-- An act of u finds its marks behind an act of t that has nothing to do with it and does not time out.
act_fits : (shape : Shape) (t u : ThreadId) (request request' : Request) (reply reply' : Reply) (woken woken' : Option ThreadId) (s : PlainState) → u ≢ t → MayButMarks shape (Act t request reply woken) s → MayButMarks shape (Act u request' reply' woken') s
    → NoClash (ActTouches t request reply s) (ActTouches u request' reply' s) → (TimesOut (Act t request reply woken) → ⊥) → FitsMarks (Act u request' reply' woken') s → FitsMarks (Act u request' reply' woken') (after shape (Act t request reply woken) s)
act_fits shape t u request request' reply reply' woken woken' s other first second locks never fits =
    let c = change_of shape t request reply woken s in
    let r = after shape (Act t request reply woken) s in
    let q = quiet_act shape t request reply woken s first in (
      still_finds shape t u (ActTouches t request reply s) (ActMakes request reply) s r other q request' reply' fits.0,
      still_wakes shape t u (ActTouches t request reply s) (ActMakes request reply) s r other q
          (λ l free. unwritten c.marked s.marked (l, t) (λ v e. free (marks_touched shape t s request reply woken never first.answers (l, t) v e)))
          request' reply' woken' locks second.answers fits.1,
    )

-- the second of two strangers finds its marks behind the first
second_fits : (shape : Shape) (u : ThreadId) (a b : Event) (s : PlainState) → Strangers shape u a b s → (TimesOut a → ⊥) → FitsMarks b s → FitsMarks b (after shape a s)
second_fits shape u (Lost client) b s h never fits = absurd h.other
second_fits shape u (Act t request reply woken) (Lost client) s h never fits = absurd h.own
second_fits shape u (Act t request reply woken) (Act v request' reply' woken') s h never fits =
    act_fits shape t v request request' reply reply' woken woken' s (λ e. h.other (sym e ∙ h.own)) h.first h.second h.locks never fits

-- and the first behind the second
first_fits : (shape : Shape) (u : ThreadId) (a b : Event) (s : PlainState) → Strangers shape u a b s → (TimesOut b → ⊥) → FitsMarks a s → FitsMarks a (after shape b s)
first_fits shape u (Lost client) b s h never fits = absurd h.other
first_fits shape u (Act t request reply woken) (Lost client) s h never fits = absurd h.own
first_fits shape u (Act t request reply woken) (Act v request' reply' woken') s h never fits =
    act_fits shape v t request' request reply' reply woken' woken s (λ e. h.other (e ∙ h.own)) h.second h.first
    (swapped (ActTouches t request reply s) (ActTouches v request' reply' s) h.locks) never fits

-- an event in front of a run finds its marks behind it, and so does the run without it
behind_fits : (shape : Shape) (u : ThreadId) (a : Event) (own : List Event) (s : PlainState) → Front shape u a own s → (TimesOut a → ⊥) → NobodyTimesOut own → FitsMarks a s → ChoicesFit shape own s
    → ChoicesFit shape own (after shape a s) × FitsMarks a (end_of shape own s)
behind_fits shape u a [] s h never nobody fits choices = (tt, fits)
behind_fits shape u a (b ∷ own) s h never nobody fits choices =
    let strangers = first_strangers shape u a b own s h in
    let d = square shape u a b s strangers in
    let rest = behind_fits shape u a own (after shape b s) (front_after shape u a b own s h) never nobody.1 (first_fits shape u a b s strangers nobody.0 fits) choices.1 in (
      (second_fits shape u a b s strangers never choices.0, subst (λ z. ChoicesFit shape own z) (sym d.same_end) rest.0),
      rest.1,
    )

-- each of two runs that are apart finds its marks behind the other
fits_swap : (shape : Shape) (u : ThreadId) (others own : List Event) (s : PlainState) → AreApart shape u others own s → NobodyTimesOut others → NobodyTimesOut own → ChoicesFit shape others s → ChoicesFit shape own s
    → ChoicesFit shape own (end_of shape others s) × ChoicesFit shape others (end_of shape own s)
fits_swap shape u [] own s h never nobody fits choices = (choices, tt)
fits_swap shape u (a ∷ others) own s h never nobody fits choices =
    let front = front_of shape u a others own s h in
    let d = behind shape u a own s front in
    let one = behind_fits shape u a own s front never.0 nobody fits.0 choices in
    let rest = fits_swap shape u others own (after shape a s) (apart_after shape u a others own s h) never.1 nobody fits.1 one.0 in (
      rest.0,
      (one.1, subst (λ z. ChoicesFit shape others z) d.same_end rest.1),
    )

-- two runs that are apart, and in which nobody times out, can follow each other
pub choices_swap : (shape : Shape) (u : ThreadId) (others own : List Event) (s : PlainState) → AreApart shape u others own s → NobodyTimesOut others → NobodyTimesOut own → Runs shape others s → Runs shape own s
    → Runs shape own (end_of shape others s) × Runs shape others (end_of shape own s)
choices_swap shape u others own s h never nobody first second =
    let d = diamond shape u others own s h in
    let fits = fits_swap shape u others own s h never nobody (choices_fit shape others s first) (choices_fit shape own s second) in (
      runs_with_marks shape own (end_of shape others s) d.own_after fits.0,
      runs_with_marks shape others (end_of shape own s) d.others_after fits.1,
    )
