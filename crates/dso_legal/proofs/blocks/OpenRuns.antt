-- A run of one thread in which nothing is an ending: what it touched it holds at its end, its holds keep their levels, and
-- a run of another thread may go before it.
use Rattle.std.proofs.Common.{◌≡◌, ◌≢◌, ◌⊎◌, inl, inr, refl, sym, ◌∙◌, ap, subst, true, cond, List, [], ◌∷◌, ◌++◌}
use Rattle.std.specs.Prelude.{Option, Some, None}
use Rattle.dso_base.specs.declared.lock.Level.{Level}
use Rattle.dso_base.specs.declared.lock.Level.TheVariants.{Read, Write}
use Rattle.dso_base.specs.declared.lock.LockName.{LockName}
use Rattle.dso_base.specs.declared.lock.ThreadId.{ThreadId}
use Rattle.dso_base.specs.declared.record.Ending.{Ending}
use Rattle.dso_base.specs.declared.request.Event.{Event}
use Rattle.dso_base.specs.declared.request.Event.TheVariants.{Act, Lost}
use Rattle.dso_base.specs.declared.request.Reply.{Reply}
use Rattle.dso_base.specs.declared.request.Reply.TheVariants.{Done}
use Rattle.dso_base.specs.declared.request.Request.{Request}
use Rattle.dso_base.specs.declared.request.Request.TheVariants.{Enter, Resume}
use Rattle.dso_base.specs.declared.shape.Shape.{Shape}
use Rattle.dso_plain.specs.State.{Hold, PlainState, level_of}
use Rattle.dso_plain.specs.Possible.{MayButMarks}
use Rattle.dso_plain.specs.After.{after}
use Rattle.dso_plain.specs.History.{RunsButMarks, end_of}
use Rattle.dso_plain.specs.Touches.{Touches, TouchesIn, Takes, MakesIn, IsActOf, AreActsOf, NoClash, NoCommonId}
use Rattle.dso_plain.proofs.keys.SameKeys.{thread_self}
use Rattle.dso_plain.proofs.independence.RunsSwap.{runs_but_marks_in_parts}
use Rattle.dso_plain.specs.Laws.{CanSwap}
use Rattle.dso_plain.proofs.independence.RunsSwap.{diamond}
use Rattle.dso_law.specs.RequestNeeds.{is_enough}
use Rattle.dso_law.specs.Threads.{Locks, hold_in, locks_by, locks_after, ending_by, ending_of}
use Rattle.dso_legal.specs.PendingBlocks.{locks_through, StaysOpen}
use Rattle.dso_legal.specs.Works.{HaveLocks}
use Rattle.dso_legal.specs.Line.{Standings}
use Rattle.dso_legal.proofs.line.LineForeign.{acts_of_other}
use Rattle.dso_legal.proofs.blocks.OpenLocks.{IsHeldFor, IsHeldAt, held_for, still_for, enough_some, act_have, act_keeps, act_touched}

-- what an event of the thread that is no ending does with its locks
pub record KeepsLocks (shape : Shape) (t : ThreadId) (e : Event) (s : PlainState) (locks : Locks) : Type 0 where
  pub have : HaveLocks t (locks_after t e locks) (after shape e s)
  pub keeps : (l : LockName) (x : Level) → IsHeldAt l x locks → IsHeldAt l x (locks_after t e locks)
  pub touched : (l : LockName) (x : Level) → Touches e s l x → IsHeldFor l x (locks_after t e locks)

-- an act of the thread
act_keeps_locks : (shape : Shape) (t : ThreadId) (request : Request) (reply : Reply) (woken : Option ThreadId) (s : PlainState) (locks : Locks) → HaveLocks t locks s → MayButMarks shape (Act t request reply woken) s
    → ending_by request reply locks ≡ None → KeepsLocks shape t (Act t request reply woken) s locks
act_keeps_locks shape t request reply woken s locks have may none =
    let same : locks_by request reply locks ≡ locks_after t (Act t request reply woken) locks = sym (ap (λ b. cond b (locks_by request reply locks) locks) (thread_self t)) in
    record {
      have = subst (λ k. HaveLocks t k (after shape (Act t request reply woken) s)) same (act_have shape t s locks have request reply woken may.answers none);
      keeps = λ l x e. subst (IsHeldAt l x) same (act_keeps shape t s locks have request reply may.answers none l x e);
      touched = λ l x h. subst (IsHeldFor l x) same (act_touched shape t s locks have request reply may.answers none l x h);
    }

-- an event of the thread
event_keeps_locks : (shape : Shape) (t : ThreadId) (e : Event) (s : PlainState) (locks : Locks) → HaveLocks t locks s → IsActOf t e → MayButMarks shape e s → ending_of e locks ≡ None → KeepsLocks shape t e s locks
event_keeps_locks shape t (Act u request reply woken) s locks have its may none =
    subst (λ w. KeepsLocks shape w (Act u request reply woken) s locks) its (act_keeps_locks shape u request reply woken s locks (subst (λ w. HaveLocks w locks s) (sym its) have) may none)
event_keeps_locks shape t (Lost client) s locks have its may none = absurd its

-- The thread's locks at the end of the run are those of the state; each hold that it had keeps its level; and what the run
-- touches is held then, at the level that it touched or a higher one.
pub record HoldsItsTouches (shape : Shape) (t : ThreadId) (y : List Event) (s : PlainState) (locks : Locks) : Type 0 where
  pub have : HaveLocks t (locks_through t y locks) (end_of shape y s)
  pub keeps : (l : LockName) (x : Level) → IsHeldAt l x locks → IsHeldAt l x (locks_through t y locks)
  pub touched : (l : LockName) (x : Level) → TouchesIn shape y s l x → IsHeldFor l x (locks_through t y locks)

module _ (shape : Shape) (t : ThreadId) where
  -- A run of the thread without endings holds its touches.
  pub open_run : (y : List Event) (s : PlainState) (locks : Locks) → AreActsOf t y → RunsButMarks shape y s → HaveLocks t locks s → StaysOpen t y locks → HoldsItsTouches shape t y s locks
  open_run [] s locks acts runs have stays = record { have = have; keeps = λ l x e. e; touched = λ l x h. absurd h }
  open_run (e ∷ y) s locks acts runs have stays =
      let one = event_keeps_locks shape t e s locks have acts.0 runs.0 stays.0 in
      let rest = open_run y (after shape e s) (locks_after t e locks) acts.1 runs.1 one.have stays.1 in
      record {
        have = rest.have;
        keeps = λ l x e. rest.keeps l x (one.keeps l x e);
        touched = λ l x. by l x one rest;
      }
    where
      by : (l : LockName) (x : Level) → KeepsLocks shape t e s locks → HoldsItsTouches shape t y (after shape e s) (locks_after t e locks) → TouchesIn shape (e ∷ y) s l x → IsHeldFor l x (locks_through t (e ∷ y) locks)
      by l x one rest (inl h) = still_for l x (locks_after t e locks) (locks_through t (e ∷ y) locks) (λ z held. rest.keeps l z held) (one.touched l x h)
      by l x one rest (inr h) = rest.touched l x h

-- a hold of the lock that is enough for the level
pub record HeldEnough (l : LockName) (x : Level) (locks : Locks) : Type 0 where
  pub hold : Hold
  pub held : hold_in l locks.holds ≡ Some hold
  pub enough : is_enough x (Some hold.level) ≡ true

-- a hold of the lock at the level
pub record HeldSo (l : LockName) (x : Level) (locks : Locks) : Type 0 where
  pub hold : Hold
  pub held : hold_in l locks.holds ≡ Some hold
  pub level : hold.level ≡ x

-- what is held for a level is held by such a hold
pub held_enough : (l : LockName) (x : Level) (locks : Locks) → IsHeldFor l x locks → HeldEnough l x locks
held_enough l x locks e = by (hold_in l locks.holds) refl e
  where
    by : (o : Option Hold) → hold_in l locks.holds ≡ o → is_enough x (level_of o) ≡ true → HeldEnough l x locks
    by None is e = absurd (cc e)
    by (Some hold) is e = record { hold = hold; held = is; enough = e }

-- and what is held at a level by such a hold
pub held_so : (l : LockName) (x : Level) (locks : Locks) → IsHeldAt l x locks → HeldSo l x locks
held_so l x locks e = by (hold_in l locks.holds) refl e
  where
    by : (o : Option Hold) → hold_in l locks.holds ≡ o → level_of o ≡ Some x → HeldSo l x locks
    by None is e = absurd (cc e)
    by (Some hold) is e = record { hold = hold; held = is; level = cc e }

-- an ending takes no lock
ending_takes_none : (request : Request) (reply : Reply) (locks : Locks) (ending : Ending) (l : LockName) (x : Level) → ending_by request reply locks ≡ Some ending → Takes request reply l x → ⊥
ending_takes_none (Enter k level) Done locks ending l x e takes = cc e
ending_takes_none (Resume k) Done locks ending l x e takes = cc e
ending_takes_none request reply locks ending l x e takes = takes

-- what an ending touches is held before it
ending_touched : (t : ThreadId) (e : Event) (s : PlainState) (locks : Locks) (ending : Ending) → HaveLocks t locks s → IsActOf t e → ending_of e locks ≡ Some ending
    → (l : LockName) (x : Level) → Touches e s l x → IsHeldAt l x locks
ending_touched t (Act u request reply woken) s locks ending have its ends l x (inl held) = sym (ap level_of (have.holds l)) ∙ ap (λ w. level_of (s.monitors (l, w))) (sym its) ∙ held
ending_touched t (Act u request reply woken) s locks ending have its ends l x (inr takes) = absurd (ending_takes_none request reply locks ending l x ends takes)
ending_touched t (Lost client) s locks ending have its ends l x h = absurd its

-- acts of two lists
pub acts_in_parts : (t : ThreadId) (xs ys : List Event) → AreActsOf t (xs ++ ys) → AreActsOf t xs × AreActsOf t ys
acts_in_parts t [] ys h = (tt, h)
acts_in_parts t (e ∷ xs) ys h = let rest = acts_in_parts t xs ys h.1 in ((h.0, rest.0), rest.1)

-- what a run in two parts touches one of them touches
pub touches_in_parts : (shape : Shape) (xs ys : List Event) (s : PlainState) (l : LockName) (x : Level) → TouchesIn shape (xs ++ ys) s l x → TouchesIn shape xs s l x ⊎ TouchesIn shape ys (end_of shape xs s) l x
touches_in_parts shape [] ys s l x h = inr h
touches_in_parts shape (e ∷ xs) ys s l x (inl h) = inl (inl h)
touches_in_parts shape (e ∷ xs) ys s l x (inr h) = elim (touches_in_parts shape xs ys (after shape e s) l x h) [
  | inl k ↦ inl (inr k)
  | inr k ↦ inr k
]

-- events without an ending, and then one that is an ending, touch what is held before the last one
pub parts_touched : (shape : Shape) (t : ThreadId) (ending : Ending) (earlier : List Event) (last : Event) (s : PlainState) (locks : Locks) → AreActsOf t (earlier ++ last ∷ []) → RunsButMarks shape (earlier ++ last ∷ []) s → HaveLocks t locks s
    → StaysOpen t earlier locks → ending_of last (locks_through t earlier locks) ≡ Some ending → (l : LockName) (x : Level) → TouchesIn shape (earlier ++ last ∷ []) s l x → IsHeldFor l x (locks_through t earlier locks)
parts_touched shape t ending earlier last s locks acts runs have stays ends l x h =
    let whose = acts_in_parts t earlier (last ∷ []) acts in
    let run = open_run shape t earlier s locks whose.0 ((runs_but_marks_in_parts shape earlier (last ∷ []) s).0 runs).0 have stays in
    elim (touches_in_parts shape earlier (last ∷ []) s l x h) [
      | inl k ↦ run.touched l x k
      | inr k ↦ elim k [
        | inl j ↦ held_for l x (locks_through t earlier locks) (ending_touched t last (end_of shape earlier s) (locks_through t earlier locks) ending run.have whose.1.0 ends l x j)
        | inr j ↦ absurd j
      ]
    ]

-- Runs of two threads from one state can swap, where their locks don't clash and they make no common id.
pub open_foreign : (shape : Shape) (t u : ThreadId) (y x : List Event) (s : PlainState) → u ≢ t → AreActsOf t y → AreActsOf u x → RunsButMarks shape y s → RunsButMarks shape x s
    → NoClash (TouchesIn shape x s) (TouchesIn shape y s) → NoCommonId (MakesIn x) (MakesIn y) → CanSwap shape x y s
open_foreign shape t u y x s ne own acts runs foreign locks ids = diamond shape t x y s (record {
  others_act = acts_of_other t u x ne acts;
  own_acts = own;
  others_run = foreign;
  own_runs = runs;
  locks = locks;
  ids = ids;
})

-- an open run of a thread that ends with holds not in conflict with what a run of another thread touches can swap with it
pub open_passed : (shape : Shape) (t u : ThreadId) (y x : List Event) (s : PlainState) (locks : Locks) → u ≢ t → AreActsOf t y → AreActsOf u x → RunsButMarks shape y s → RunsButMarks shape x s → HaveLocks t locks s → StaysOpen t y locks
    → ((l : LockName) (a b : Level) → TouchesIn shape x s l a → IsHeldFor l b (locks_through t y locks) → (a ≡ Read) × (b ≡ Read)) → NoCommonId (MakesIn x) (MakesIn y) → CanSwap shape x y s
open_passed shape t u y x s locks ne own acts runs foreign have stays free ids =
    open_foreign shape t u y x s ne own acts runs foreign (λ l a b p q. free l a b p ((open_run shape t y s locks own runs have stays).touched l b q)) ids

-- what is enough for a level that is enough for another is enough for that
pub enough_through : (x y : Level) (o : Option Level) → is_enough x (Some y) ≡ true → is_enough y o ≡ true → is_enough x o ≡ true
enough_through x y None e f = absurd (cc f)
enough_through Read y (Some z) e f = refl
enough_through Write Write (Some z) e f = f
enough_through Write Read (Some z) e f = absurd (cc e)

-- what is held for a level is within the leases where the holds are
pub held_within : (locks : Locks) (st : Standings) → ((l : LockName) (x : Level) → IsHeldAt l x locks → is_enough x (st l).lease ≡ true) → (l : LockName) (x : Level) → IsHeldFor l x locks → is_enough x (st l).lease ≡ true
held_within locks st within l x e =
    let some = enough_some x (level_of (hold_in l locks.holds)) e in
    enough_through x some.0 (st l).lease (sym (ap (is_enough x) some.1) ∙ e) (within l some.0 some.1)
