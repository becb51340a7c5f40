-- What a thread has seen of a field stays while it doesn't touch the field's guard.
use Rattle.std.proofs.Common.{ℕ, ◌≡◌, inl, inr, refl, sym, ◌∙◌, ap, subst, Bool, true, false, cond, eqb, ◌&&◌, is_none, Option, Some, None, List, [], ◌∷◌, length, ◌-◌}
use Rattle.dso_base.specs.declared.lock.Level.{Level}
use Rattle.dso_base.specs.declared.lock.Level.TheVariants.{Write}
use Rattle.dso_base.specs.declared.lock.ThreadId.{ThreadId}
use Rattle.dso_base.specs.declared.request.Event.{Event}
use Rattle.dso_base.specs.declared.request.Event.TheVariants.{Act, Lost}
use Rattle.dso_base.specs.declared.request.Reply.{Reply}
use Rattle.dso_base.specs.declared.request.Reply.TheVariants.{Done, Made, Seen, Val}
use Rattle.dso_base.specs.declared.request.Request.{Request}
use Rattle.dso_base.specs.declared.request.Request.TheVariants.{New, Look, Get, Put, Enter, Exit, Wait, Timeout, Resume, Notify, NotifyAll, Print, End}
use Rattle.dso_base.specs.declared.shape.Shape.{Shape}
use Rattle.dso_base.specs.declared.value.Value.{Value}
use Rattle.dso_base.specs.Following.{is_thread}
use Rattle.dso_plain.specs.After.{after, read, read_shared, put}
use Rattle.dso_plain.specs.History.{RunsButMarks, end_of}
use Rattle.dso_plain.specs.KeyTests.{is_view}
use Rattle.dso_lookup.specs.Maps.{or_old, written}
use Rattle.dso_plain.specs.Own.{LeavesField}
use Rattle.dso_plain.specs.Possible.{AnswersRequest, MayPut}
use Rattle.dso_plain.specs.State.{PlainState, Object, Hold, IsShared, is_shared, is_owner, is_private_to, guard_in, guard_of_object, hold_on_guard, level_of}
use Rattle.dso_plain.specs.Touches.{TouchesIn, AreActsOf}
use Rattle.dso_plain.proofs.keys.SameKeys.{same_number}
use Rattle.dso_lookup.proofs.Tests.{both}
use Rattle.dso_plain.proofs.independence.LeftAlone.{leaves_field}

-- no object is both private and shared
not_both : (t : ThreadId) (object : Option Object) → is_private_to t object ≡ true → is_shared object ≡ true → ⊥
not_both t None private common = absurd (cc private)
not_both t (Some object) private common = by object.owner private common
  where
    by : (owner : Option ThreadId) → is_owner t owner ≡ true → is_none owner ≡ true → ⊥
    by None private common = absurd (cc private)
    by (Some owner) private common = absurd (cc common)

module _ (shape : Shape) (t : ThreadId) (o f : ℕ) where
  -- the thread doesn't hold the field's guard
  abbrev IsOutside : PlainState → Type 0
  IsOutside s = (x : Level) → level_of (hold_on_guard shape t o f s) ≡ Some x → ⊥

  -- a hold of the guard is none
  no_hold : (s : PlainState) → IsOutside s → (hold : Hold) → hold_on_guard shape t o f s ≡ Some hold → ⊥
  no_hold s outside hold holds = outside hold.level (ap level_of holds)

  -- the view is of the field
  its_object : (x g : ℕ) → is_view t x g (t, o, f) ≡ true → o ≡ x
  its_object x g is = same_number o x (both (eqb o x) (eqb f g) (both (is_thread t t) (eqb o x && eqb f g) is).1).0

  its_field : (x g : ℕ) → is_view t x g (t, o, f) ≡ true → f ≡ g
  its_field x g is = same_number f g (both (eqb o x) (eqb f g) (both (is_thread t t) (eqb o x && eqb f g) is).1).1

  -- a read of a field under its guard
  read_seen : (x g : ℕ) (s : PlainState) → IsOutside s → (hold : Option Hold) → hold_on_guard shape t x g s ≡ hold → (test : Bool) → is_view t x g (t, o, f) ≡ test
      → written (read_shared t x g hold s).seen s.seen (t, o, f) ≡ s.seen (t, o, f)
  read_seen x g s outside None holds test is = refl
  read_seen x g s outside (Some hold) holds true is = absurd (no_hold s outside hold (ap (λ y. hold_on_guard shape t y f s) (its_object x g is) ∙ (ap (λ y. hold_on_guard shape t x y s) (its_field x g is) ∙ holds)))
  read_seen x g s outside (Some hold) holds false is = ap (λ b. or_old (cond b (Some (length (s.past (x, g)) - 1)) None) (s.seen (t, o, f))) is

  read_any : (x g : ℕ) (s : PlainState) → IsOutside s → (b : Bool) → written (read shape t x g b s).seen s.seen (t, o, f) ≡ s.seen (t, o, f)
  read_any x g s outside true = read_seen x g s outside (hold_on_guard shape t x g s) refl (is_view t x g (t, o, f)) refl
  read_any x g s outside false = refl

  -- a put into a field
  put_seen : (x g : ℕ) (v : Value) (s : PlainState) → IsShared o s → IsOutside s → MayPut shape t x g Done s → (b : Bool) → is_shared (s.objects x) ≡ b → (test : Bool) → is_view t x g (t, o, f) ≡ test
      → written (put t x g v b s).seen s.seen (t, o, f) ≡ s.seen (t, o, f)
  put_seen x g v s shared outside may false owned test is = refl
  put_seen x g v s shared outside may true owned false is = ap (λ b. or_old (cond b (Some (length (s.past (x, g)))) None) (s.seen (t, o, f))) is
  put_seen x g v s shared outside (inl private) true owned true is = absurd (not_both t (s.objects x) private owned)
  put_seen x g v s shared outside (inr held) true owned true is = absurd (outside Write (ap (λ y. level_of (hold_on_guard shape t y f s)) (its_object x g is) ∙ (ap (λ y. level_of (hold_on_guard shape t x y s)) (its_field x g is) ∙ held.1)))

  -- an act
  act_seen : (request : Request) (reply : Reply) (woken : Option ThreadId) (s : PlainState) → AnswersRequest shape t request reply s → IsShared o s → IsOutside s
      → (after shape (Act t request reply woken) s).seen (t, o, f) ≡ s.seen (t, o, f)
  act_seen (Get x g) (Val v) woken s may shared outside = read_any x g s outside (is_shared (s.objects x))
  act_seen (Put x g v) Done woken s may shared outside = put_seen x g v s shared outside may.1 (is_shared (s.objects x)) refl (is_view t x g (t, o, f)) refl
  act_seen (New class n) (Made made) woken s may shared outside = refl
  act_seen (Look x) (Seen class n) woken s may shared outside = refl
  act_seen (Enter l level) Done woken s may shared outside = refl
  act_seen (Exit l) Done woken s may shared outside = refl
  act_seen (Wait l) Done woken s may shared outside = refl
  act_seen (Timeout l) Done woken s may shared outside = refl
  act_seen (Resume l) Done woken s may shared outside = refl
  act_seen (Notify l) Done None s may shared outside = refl
  act_seen (Notify l) Done (Some woken) s may shared outside = refl
  act_seen (NotifyAll l) Done woken s may shared outside = refl
  act_seen (Print v) Done woken s may shared outside = refl
  act_seen (End fault) Done woken s may shared outside = refl
  act_seen request reply woken s may shared outside = refl

  -- What the thread has seen of a shared field stays in a run of its own that doesn't touch the guard.
  pub seen_stays : (es : List Event) (s : PlainState) → AreActsOf t es → RunsButMarks shape es s → IsShared o s → ((x : Level) → TouchesIn shape es s (guard_in shape s o f) x → ⊥)
      → (end_of shape es s).seen (t, o, f) ≡ s.seen (t, o, f)
  seen_stays [] s acts runs shared free = refl
  seen_stays (Lost client ∷ es) s acts runs shared free = absurd acts.0
  seen_stays (Act u request reply woken ∷ es) s acts runs shared free = seen_stays es (after shape (Act u request reply woken) s) acts.1 runs.1 still rest ∙ first u acts.0 runs.0.answers (λ x level. free x (inl (inl level)))
    where
      left : LeavesField o f s (after shape (Act u request reply woken) s)
      left = leaves_field shape (Act u request reply woken ∷ []) s o f (runs.0, tt) shared (λ touch. untouched touch)
        where
          untouched : TouchesIn shape (Act u request reply woken ∷ []) s (guard_in shape s o f) Write → ⊥
          untouched (inl touch) = free Write (inl touch)
          untouched (inr none) = absurd none

      still : IsShared o (after shape (Act u request reply woken) s)
      still = ap is_shared left.object ∙ shared

      rest : (x : Level) → TouchesIn shape es (after shape (Act u request reply woken) s) (guard_in shape (after shape (Act u request reply woken) s) o f) x → ⊥
      rest x touch = free x (inr (subst (λ l. TouchesIn shape es (after shape (Act u request reply woken) s) l x) (ap (λ object. guard_of_object shape object o f) left.object) touch))

      first : (w : ThreadId) → w ≡ t → AnswersRequest shape w request reply s → ((x : Level) → level_of (s.monitors (guard_in shape s o f, w)) ≡ Some x → ⊥) → (after shape (Act w request reply woken) s).seen (t, o, f) ≡ s.seen (t, o, f)
      first w is may outside = subst (λ z. (after shape (Act z request reply woken) s).seen (t, o, f) ≡ s.seen (t, o, f)) (sym is) (act_seen request reply woken s (subst (λ z. AnswersRequest shape z request reply s) is may) shared (subst (λ z. (x : Level) → level_of (s.monitors (guard_in shape s o f, z)) ≡ Some x → ⊥) is outside))
