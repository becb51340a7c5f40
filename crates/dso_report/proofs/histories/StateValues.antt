-- What holds of every value that a state has, where it holds of those that the threads put and print.
use Rattle.std.proofs.Common.{ℕ, ◌≡◌, inl, inr, refl, sym, subst, Bool, true, false, cond, eqb, ltb, Option, Some, None, List, [], ◌∷◌}
use Rattle.std.specs.Prelude.{pos}
use Rattle.std.specs.List.{All}
use Rattle.std.proofs.lemmas.List.Elements.{All-nil, All-cons, All-head, All-tail}
use Rattle.dso_base.specs.declared.lock.LockName.{LockName}
use Rattle.dso_base.specs.declared.lock.ThreadId.{ThreadId}
use Rattle.dso_base.specs.declared.request.Event.TheVariants.{Lost}
use Rattle.dso_base.specs.declared.request.Reply.{Reply}
use Rattle.dso_base.specs.declared.request.Reply.TheVariants.{Done, Made, Val}
use Rattle.dso_base.specs.declared.request.Request.{Request}
use Rattle.dso_base.specs.declared.request.Request.TheVariants.{New, Get, Put, Enter, Exit, Wait, Timeout, Resume, Notify, NotifyAll, Print, End}
use Rattle.dso_base.specs.declared.shape.Shape.{Shape}
use Rattle.dso_base.specs.declared.value.ClassId.{ClassId}
use Rattle.dso_base.specs.declared.value.Kind.{Kind}
use Rattle.dso_base.specs.declared.value.Kind.TheVariants as kind
use Rattle.dso_base.specs.declared.value.Value.{Value}
use Rattle.dso_base.specs.declared.value.Value.TheVariants as value
use Rattle.dso_base.specs.Following.{is_thread}
use Rattle.dso_base.specs.Shape.{kind_of}
use Rattle.dso_base.specs.Block.{opening_value}
use Rattle.dso_plain.specs.After.{apply, change_of, after, made_new, opening_field, read, read_shared, put, published, present, notifies}
use Rattle.dso_plain.specs.KeyTests.{is_field}
use Rattle.dso_plain.specs.Possible.{StandsFrom, AnswersGet}
use Rattle.dso_plain.specs.State.{Hold, PlainState, opening, is_root, is_shared, hold_on_guard}
use Rattle.dso_report.proofs.histories.Chosen.{chosen, chosen_of_two}

-- It holds of the values with which fields begin.
pub record HoldsFirst (P : Value → Type 0) : Type 0 where
  pub null : P value.Null
  pub zero : P (value.Long (pos 0))
  pub false : P (value.Bool false)

-- It holds of the value that the request stores or prints, if it does either.
abbrev pub Gives : (Value → Type 0) → Request → Type 0
Gives P (Put o f v) = P v
Gives P (Print v) = P v
Gives P request = Unit {0}

-- It holds of each value in a field, in a past, and among what was printed.
pub record HasOnly (P : Value → Type 0) (s : PlainState) : Type 0 where
  pub heap : (key : ℕ × ℕ) (v : Value) → s.heap key ≡ Some v → P v
  pub past : (key : ℕ × ℕ) → All P (s.past key)
  pub output : (t : ThreadId) → All P (s.output t)

module _ (P : Value → Type 0) where
  -- it holds of the value, if there is one
  abbrev OfSome : Option Value → Type 0
  OfSome found = (v : Value) → found ≡ Some v → P v

  -- it holds of a value that is there, where it holds of that value
  of_one : (v : Value) → P v → OfSome (Some v)
  of_one v holds w is = subst P (cc is) holds

  -- it holds of no value where there is none
  of_none : OfSome None
  of_none v is = absurd (cc is)

  -- it holds of a value that is there where a test holds
  of_test : (b : Bool) (v : Value) → P v → OfSome (cond b (Some v) None)
  of_test true v holds = of_one v holds
  of_test false v holds = of_none

  -- it holds of each of a list that has one value where a test holds, and none else
  all_of_test : (b : Bool) (v : Value) → P v → All P (cond b (v ∷ []) [])
  all_of_test true v holds = All-cons P v [] holds (All-nil P)
  all_of_test false v holds = All-nil P

  -- it holds of each value of a past that has the present value alone
  all_present : (found : Option Value) → OfSome found → All P (present found)
  all_present None holds = All-nil P
  all_present (Some v) holds = All-cons P v [] (holds v refl) (All-nil P)

  -- it holds of a value that stands in a past of which it holds
  of_past : (place : ℕ) (v : Value) (past : List Value) → All P past → StandsFrom place v past → P v
  of_past place v [] all stands = absurd stands
  of_past place v (newest ∷ older) all (inl first) = subst P (sym first.1) (All-head P newest older all)
  of_past place v (newest ∷ older) all (inr later) = of_past place v older (All-tail P newest older all) later

  -- it holds of the value that a possible reply to a read tells
  pub of_read : (shape : Shape) (t : ThreadId) (o f : ℕ) (v : Value) (s : PlainState) → HasOnly P s → AnswersGet shape t o f (Val v) s → P v
  of_read shape t o f v s has (inl own) = has.heap (o, f) v own.1
  of_read shape t o f v s has (inr (inl guarded)) = has.heap (o, f) v guarded.2
  of_read shape t o f v s has (inr (inr unguarded)) = of_past (s.seen (t, o, f)) v (s.past (o, f)) (has.past (o, f)) unguarded.2

  module _ (first : HoldsFirst P) where
    -- it holds of the value with which a field of a kind begins
    of_kind : (k : Kind) → P (opening_value k)
    of_kind kind.Long = first.zero
    of_kind kind.Bool = first.false
    of_kind kind.Text = first.null
    of_kind kind.Ref = first.null

    -- the opening state has only null
    pub opening_has : (shape : Shape) → HasOnly P (opening shape)
    opening_has shape = record {
      heap = λ key. of_test (is_root shape key) value.Null first.null;
      past = λ key. all_of_test (is_root shape key) value.Null first.null;
      output = λ t. All-nil P;
    }

    -- a new object has only values with which fields begin
    new_has : (shape : Shape) (t : ThreadId) (class : ClassId) (n o : ℕ) (s : PlainState) → HasOnly P s → HasOnly P (apply (made_new shape t class n o s) s)
    new_has shape t class n o s has = record {
      heap = λ key. chosen OfSome (eqb key.0 o) (opening_field shape class n key.1) (s.heap key) (of_test (ltb key.1 n) (opening_value (kind_of shape class key.1)) (of_kind (kind_of shape class key.1))) (has.heap key);
      past = has.past;
      output = has.output;
    }

    -- what is put is a value of the state
    put_has : (t : ThreadId) (o f : ℕ) (v : Value) (b : Bool) (s : PlainState) → P v → HasOnly P s → HasOnly P (apply (put t o f v b s) s)
    put_has t o f v true s holds has = record {
      heap = λ key. chosen OfSome (is_field o f key) (Some v) (s.heap key) (of_one v holds) (has.heap key);
      past = λ key. chosen_of_two (All P) (is_field o f key) (published t v s key.0) (v ∷ s.past (o, f)) (present (s.heap key)) (s.past key)
          (All-cons P v (s.past (o, f)) holds (has.past (o, f))) (all_present (s.heap key) (has.heap key)) (has.past key);
      output = has.output;
    }
    put_has t o f v false s holds has = record {
      heap = λ key. chosen OfSome (is_field o f key) (Some v) (s.heap key) (of_one v holds) (has.heap key);
      past = has.past;
      output = has.output;
    }

    -- what is printed is a value of the state
    print_has : (shape : Shape) (t : ThreadId) (v : Value) (woken : Option ThreadId) (s : PlainState) → P v → HasOnly P s → HasOnly P (apply (change_of shape t (Print v) Done woken s) s)
    print_has shape t v woken s holds has = record {
      heap = has.heap;
      past = has.past;
      output = λ u. chosen (All P) (is_thread t u) (v ∷ s.output t) (s.output u) (All-cons P v (s.output t) holds (has.output t)) (has.output u);
    }

    -- a read of a shared object leaves the values as they are
    read_shared_has : (t : ThreadId) (o f : ℕ) (hold : Option Hold) (s : PlainState) → HasOnly P s → HasOnly P (apply (read_shared t o f hold s) s)
    read_shared_has t o f None s has = record { heap = has.heap; past = has.past; output = has.output }
    read_shared_has t o f (Some hold) s has = record { heap = has.heap; past = has.past; output = has.output }

    -- a read leaves the values as they are
    read_has : (shape : Shape) (t : ThreadId) (o f : ℕ) (b : Bool) (s : PlainState) → HasOnly P s → HasOnly P (apply (read shape t o f b s) s)
    read_has shape t o f true s has = read_shared_has t o f (hold_on_guard shape t o f s) s has
    read_has shape t o f false s has = has

    -- a notification leaves them
    notify_has : (l : LockName) (woken : Option ThreadId) (s : PlainState) → HasOnly P s → HasOnly P (apply (notifies l woken) s)
    notify_has l None s has = has
    notify_has l (Some w) s has = record { heap = has.heap; past = has.past; output = has.output }

    -- it holds of each value after an act, where it holds of the one that the act stores or prints
    pub act_has : (shape : Shape) (t : ThreadId) (request : Request) (reply : Reply) (woken : Option ThreadId) (s : PlainState) → Gives P request → HasOnly P s → HasOnly P (apply (change_of shape t request reply woken s) s)
    act_has shape t (New class n) (Made o) woken s gives has = new_has shape t class n o s has
    act_has shape t (Get o f) (Val v) woken s gives has = read_has shape t o f (is_shared (s.objects o)) s has
    act_has shape t (Put o f v) Done woken s gives has = put_has t o f v (is_shared (s.objects o)) s gives has
    act_has shape t (Enter l level) Done woken s gives has = record { heap = has.heap; past = has.past; output = has.output }
    act_has shape t (Exit l) Done woken s gives has = record { heap = has.heap; past = has.past; output = has.output }
    act_has shape t (Wait l) Done woken s gives has = record { heap = has.heap; past = has.past; output = has.output }
    act_has shape t (Timeout l) Done woken s gives has = record { heap = has.heap; past = has.past; output = has.output }
    act_has shape t (Resume l) Done woken s gives has = record { heap = has.heap; past = has.past; output = has.output }
    act_has shape t (Notify l) Done woken s gives has = notify_has l woken s has
    act_has shape t (NotifyAll l) Done woken s gives has = record { heap = has.heap; past = has.past; output = has.output }
    act_has shape t (Print v) Done woken s gives has = print_has shape t v woken s gives has
    act_has shape t (End fault) Done woken s gives has = record { heap = has.heap; past = has.past; output = has.output }
    act_has shape t request reply woken s gives has = has

    -- the loss of a client leaves the values as they are
    pub loss_has : (shape : Shape) (client : ℕ) (s : PlainState) → HasOnly P s → HasOnly P (after shape (Lost client) s)
    loss_has shape client s has = record { heap = has.heap; past = has.past; output = has.output }
