-- No field holds or held object 0, and no reply tells of it.
use Rattle.std.proofs.Common.{◌≡◌, ◌≢◌, inl, inr, refl, ℕ, arith, Bool, true, false, cond, eqb, ltb, ◌&&◌, List, [], ◌∷◌, Option, None, Some, subst, sym, ap, ◌∙◌}
use Rattle.dso_base.specs.declared.lock.LockName.{LockName}
use Rattle.dso_base.specs.declared.lock.ThreadId.{ThreadId}
use Rattle.dso_base.specs.declared.request.Event.TheVariants.{Act}
use Rattle.dso_base.specs.declared.request.Reply.{Reply}
use Rattle.dso_base.specs.declared.request.Reply.TheVariants.{Done, Made, Val}
use Rattle.dso_base.specs.declared.request.Request.{Request}
use Rattle.dso_base.specs.declared.request.Request.TheVariants.{New, Get, Put, Enter, Exit, Wait, Timeout, Resume, Notify, NotifyAll, Print, End}
use Rattle.dso_base.specs.declared.shape.Shape.{Shape}
use Rattle.dso_base.specs.declared.value.ClassId.{ClassId}
use Rattle.dso_base.specs.declared.value.Kind.{Kind}
use Rattle.dso_base.specs.declared.value.Kind.TheVariants as kind
use Rattle.dso_base.specs.declared.value.Value.{Value}
use Rattle.dso_base.specs.declared.value.Value.TheVariants as value
use Rattle.dso_base.specs.Block.{opening_value}
use Rattle.dso_base.specs.Shape.{kind_of}
use Rattle.dso_lookup.specs.Maps.{or_old}
use Rattle.dso_plain.specs.KeyTests.{is_field}
use Rattle.dso_plain.specs.State.{Hold, PlainState, opening, is_shared, hold_on_guard}
use Rattle.dso_plain.specs.Possible.{StandsFrom, AnswersRequest, AnswersGet}
use Rattle.dso_plain.specs.After.{after, apply, opening_field, read, read_shared, put, published, present, notifies, made_new}
use Rattle.dso_plain.specs.StepInvariants.{PastInvariant}
use Rattle.dso_plain.specs.Past.{newest}
use Rattle.dso_plain.proofs.keys.SameKeys.{same_number}
use Rattle.dso_legal.specs.SoundProgram.{tells}

-- no field holds or held object 0
pub record NoZeroIn (heap : ℕ × ℕ → Option Value) (past : ℕ × ℕ → List Value) : Type 0 where
  pub heap_none : (key : ℕ × ℕ) → heap key ≡ Some (value.Ref 0) → ⊥
  pub past_none : (key : ℕ × ℕ) → StandsFrom 0 (value.Ref 0) (past key) → ⊥

abbrev pub NoZero : PlainState → Type 0
NoZero s = NoZeroIn s.heap s.past

-- an opening value is no object
opens_none : (k : Kind) → opening_value k ≡ value.Ref 0 → ⊥
opens_none kind.Long is = absurd (cc is)
opens_none kind.Bool is = absurd (cc is)
opens_none kind.Text is = absurd (cc is)
opens_none kind.Ref is = absurd (cc is)

opens_no_zero : (b : Bool) (k : Kind) → cond b (Some (opening_value k)) None ≡ Some (value.Ref 0) → ⊥
opens_no_zero true k is = opens_none k (cc is)
opens_no_zero false k is = absurd (cc is)

-- what stands from a place on stands in the past
pub stands_at_all : (place : ℕ) (v : Value) (past : List Value) → StandsFrom place v past → StandsFrom 0 v past
stands_at_all place v [] h = absurd h
stands_at_all place v (first ∷ older) (inl h) = inl (omega arith, h.1)
stands_at_all place v (first ∷ older) (inr h) = inr (stands_at_all place v older h)

-- the newest of a past stands in it
pub newest_stands : (v : Value) (past : List Value) → newest past ≡ Some v → StandsFrom 0 v past
newest_stands v [] is = absurd (cc is)
newest_stands v (first ∷ older) is = inl (omega arith, sym (cc is))

present_none : (v : Option Value) → (v ≡ Some (value.Ref 0) → ⊥) → StandsFrom 0 (value.Ref 0) (present v) → ⊥
present_none None other h = absurd h
present_none (Some v) other (inl h) = other (ap Some (sym h.1))
present_none (Some v) other (inr h) = absurd h

-- at first all roots are null
pub opening_none : (shape : Shape) → NoZero (opening shape)
opening_none shape = record { heap_none = λ key is. in_heap (eqb key.0 0 && ltb key.1 shape.roots) is; past_none = λ key h. in_past (eqb key.0 0 && ltb key.1 shape.roots) h }
  where
    in_heap : (b : Bool) → cond b (Some value.Null) None ≡ Some (value.Ref 0) → ⊥
    in_heap true is = absurd (cc is)
    in_heap false is = absurd (cc is)

    in_past : (b : Bool) → StandsFrom 0 (value.Ref 0) (cond b (value.Null ∷ []) []) → ⊥
    in_past true (inl h) = absurd (cc h.1)
    in_past true (inr h) = absurd h
    in_past false h = absurd h

-- what a request stores is not object 0
abbrev pub StoresNoZero : Request → Type 0
StoresNoZero (Put o f v) = v ≡ value.Ref 0 → ⊥
StoresNoZero q = Unit {0}

module _ (shape : Shape) (t : ThreadId) (s : PlainState) (none : NoZero s) where
  -- a new object
  made_none : (class : ClassId) (n o : ℕ) → NoZero (apply (made_new shape t class n o s) s)
  made_none class n o = record { heap_none = λ key is. by key (eqb key.0 o) is; past_none = none.past_none }
    where
      by : (key : ℕ × ℕ) (b : Bool) → or_old (cond b (Some (opening_field shape class n key.1)) None) (s.heap key) ≡ Some (value.Ref 0) → ⊥
      by key true is = opens_no_zero (ltb key.1 n) (kind_of shape class key.1) is
      by key false is = none.heap_none key is

  -- a put
  put_none : (o f : ℕ) (v : Value) → (v ≡ value.Ref 0 → ⊥) → (b : Bool) → NoZero (apply (put t o f v b s) s)
  put_none o f v other true = record { heap_none = λ key is. in_heap key (is_field o f key) is; past_none = λ key h. in_past key (is_field o f key) (published t v s key.0) h }
    where
      in_heap : (key : ℕ × ℕ) (b : Bool) → or_old (cond b (Some (Some v)) None) (s.heap key) ≡ Some (value.Ref 0) → ⊥
      in_heap key true is = other (cc is)
      in_heap key false is = none.heap_none key is

      in_past : (key : ℕ × ℕ) (b c : Bool) → StandsFrom 0 (value.Ref 0) (or_old (cond b (Some (v ∷ s.past (o, f))) (cond c (Some (present (s.heap key))) None)) (s.past key)) → ⊥
      in_past key true c (inl h) = other (sym h.1)
      in_past key true c (inr h) = none.past_none (o, f) h
      in_past key false true h = present_none (s.heap key) (none.heap_none key) h
      in_past key false false h = none.past_none key h
  put_none o f v other false = record { heap_none = λ key is. in_heap key (is_field o f key) is; past_none = none.past_none }
    where
      in_heap : (key : ℕ × ℕ) (b : Bool) → or_old (cond b (Some (Some v)) None) (s.heap key) ≡ Some (value.Ref 0) → ⊥
      in_heap key true is = other (cc is)
      in_heap key false is = none.heap_none key is

  read_shared_none : (o f : ℕ) (hold : Option Hold) → NoZero (apply (read_shared t o f hold s) s)
  read_shared_none o f None = record { heap_none = none.heap_none; past_none = none.past_none }
  read_shared_none o f (Some hold) = record { heap_none = none.heap_none; past_none = none.past_none }

  read_none : (o f : ℕ) (b : Bool) → NoZero (apply (read shape t o f b s) s)
  read_none o f true = read_shared_none o f (hold_on_guard shape t o f s)
  read_none o f false = record { heap_none = none.heap_none; past_none = none.past_none }

  notify_none : (l : LockName) (woken : Option ThreadId) → NoZero (apply (notifies l woken) s)
  notify_none l None = record { heap_none = none.heap_none; past_none = none.past_none }
  notify_none l (Some w) = record { heap_none = none.heap_none; past_none = none.past_none }

  -- each act keeps it so
  pub act_none : (q : Request) (r : Reply) (woken : Option ThreadId) → StoresNoZero q → NoZero (after shape (Act t q r woken) s)
  act_none (New class n) (Made o) woken stores = made_none class n o
  act_none (Get o f) (Val v) woken stores = read_none o f (is_shared (s.objects o))
  act_none (Put o f v) Done woken stores = put_none o f v stores (is_shared (s.objects o))
  act_none (Enter l level) Done woken stores = record { heap_none = none.heap_none; past_none = none.past_none }
  act_none (Exit l) Done woken stores = record { heap_none = none.heap_none; past_none = none.past_none }
  act_none (Wait l) Done woken stores = record { heap_none = none.heap_none; past_none = none.past_none }
  act_none (Timeout l) Done woken stores = record { heap_none = none.heap_none; past_none = none.past_none }
  act_none (Resume l) Done woken stores = record { heap_none = none.heap_none; past_none = none.past_none }
  act_none (Notify l) Done woken stores = notify_none l woken
  act_none (NotifyAll l) Done woken stores = record { heap_none = none.heap_none; past_none = none.past_none }
  act_none (Print v) Done woken stores = record { heap_none = none.heap_none; past_none = none.past_none }
  act_none (End fault) Done woken stores = record { heap_none = none.heap_none; past_none = none.past_none }
  act_none q r woken stores = record { heap_none = none.heap_none; past_none = none.past_none }

  -- ---- what replies tell

  module _ (kept : PastInvariant s) where
    -- what a Get reads is not object 0
    read_real : (o f n : ℕ) → AnswersGet shape t o f (Val (value.Ref n)) s → n ≢ 0
    read_real o f n (inl own) zero = none.heap_none (o, f) (own.1 ∙ ap (λ k. Some (value.Ref k)) zero)
    read_real o f n (inr (inl guarded)) zero = none.heap_none (o, f) (guarded.2 ∙ ap (λ k. Some (value.Ref k)) zero)
    read_real o f n (inr (inr past)) zero = none.past_none (o, f) (stands_at_all (s.seen (t, o, f)) (value.Ref 0) (s.past (o, f)) (subst (λ k. StandsFrom (s.seen (t, o, f)) (value.Ref k) (s.past (o, f))) zero past.2))

  -- no number but 0 is 0
  no_zero : (n : ℕ) → n ≢ 0 → eqb n 0 ≡ false
  no_zero n other = by (eqb n 0) refl
    where
      by : (b : Bool) → eqb n 0 ≡ b → b ≡ false
      by true is = absurd (other (same_number n 0 is))
      by false is = refl

  pub untold : (kept : PastInvariant s) (q : Request) (r : Reply) → AnswersRequest shape t q r s → tells 0 r ≡ false
  untold kept (New class n) (Made o) answers = no_zero o (λ zero. absurd (omega (arith, zero, answers.0)))
  untold kept (Get o f) (Val (value.Ref n)) answers = no_zero n (read_real kept o f n answers)
  untold kept (Put o f v) (Made m) answers = absurd answers.1
  untold kept (Put o f v) (Val (value.Ref n)) answers = absurd answers.1
  untold kept q (Made o) answers = absurd answers
  untold kept q (Val (value.Ref n)) answers = absurd answers
  untold kept q r answers = refl
