-- Which objects a state has: object 0 with the roots, and others that can be made. None goes away.
use Rattle.std.proofs.Common.{ℕ, ◌≡◌, ◌≢◌, ◌≤◌, refl, sym, ap, ◌∙◌, subst, Bool, true, false, cond, eqb, Option, Some, None, List, [], ◌∷◌, arith}
use Rattle.dso_base.specs.declared.lock.LockName.{LockName}
use Rattle.dso_base.specs.declared.lock.ThreadId.{ThreadId}
use Rattle.dso_base.specs.declared.request.Event.{Event}
use Rattle.dso_base.specs.declared.request.Event.TheVariants.{Act, Lost}
use Rattle.dso_base.specs.declared.request.Reply.{Reply}
use Rattle.dso_base.specs.declared.request.Reply.TheVariants.{Done, Made, Val}
use Rattle.dso_base.specs.declared.request.Request.{Request}
use Rattle.dso_base.specs.declared.request.Request.TheVariants.{New, Get, Put, Enter, Exit, Wait, Timeout, Resume, Notify, NotifyAll, Print, End}
use Rattle.dso_base.specs.declared.shape.Shape.{Shape}
use Rattle.dso_base.specs.declared.value.ClassId.{ClassId}
use Rattle.dso_base.specs.declared.value.Value.{Value}
use Rattle.dso_plain.specs.After.{apply, change_of, after, made_new, new_object, read, read_shared, put, published, shared, notifies}
use Rattle.dso_plain.specs.History.{Runs, end_of}
use Rattle.dso_lookup.specs.Maps.{or_old}
use Rattle.dso_plain.specs.Possible.{May, AnswersRequest, CanBeMade}
use Rattle.dso_plain.specs.State.{Object, Hold, PlainState, opening, roots_object, size_of, is_shared, hold_on_guard}
use Rattle.dso_plain.proofs.keys.SameKeys.{same_number, number_self}
use Rattle.dso_plain.proofs.invariants.PastsHold.{shared_size}
use Rattle.dso_report.proofs.histories.Chosen.{chosen}

-- Object 0 has a field for each root, and each other object is one that can be made.
pub record HasObjects (shape : Shape) (s : PlainState) : Type 0 where
  pub roots : size_of (s.objects 0) ≡ shape.roots
  pub others : (o : ℕ) (object : Object) → o ≢ 0 → s.objects o ≡ Some object → CanBeMade shape object.class object.size

-- ---- what becomes shared

-- an object that becomes shared is there
shared_there : (found : Option Object) → found ≢ None → shared found ≢ None
shared_there None there = there
shared_there (Some object) there = λ none. cc none

module _ (shape : Shape) where
  -- the object, if there is one, can be made
  abbrev Makeable : Option Object → Type 0
  Makeable found = (object : Object) → found ≡ Some object → CanBeMade shape object.class object.size

  -- an object of a class and a size that can be made can be made
  one_makeable : (object : Object) → CanBeMade shape object.class object.size → Makeable (Some object)
  one_makeable object made other is =
      let same : object ≡ other = cc is in
      subst (λ (x : Object). CanBeMade shape x.class x.size) same made

  -- an object that becomes shared can be made, where it could be made before
  shared_makeable : (found : Option Object) → Makeable found → Makeable (shared found)
  shared_makeable None made = made
  shared_makeable (Some object) made = one_makeable (record object { owner = None }) (made object refl)

  -- ---- events

  -- no other object than object 0 is there at first
  no_other : (o : ℕ) (b : Bool) → eqb o 0 ≡ b → o ≢ 0 → Makeable (cond b (Some (roots_object shape)) None)
  no_other o true is other = absurd (other (same_number o 0 is))
  no_other o false is other = λ object none. absurd (cc none)

  -- the opening state has object 0 alone
  pub opening_objects : HasObjects shape (opening shape)
  opening_objects = record { roots = refl; others = λ o object other. no_other o (eqb o 0) refl other object }

  -- What the first state has of objects the second has, and each object of the first is in the second.
  pub record Grows (s r : PlainState) : Type 0 where
    pub has : HasObjects shape s → HasObjects shape r
    pub stays : (o : ℕ) → s.objects o ≢ None → r.objects o ≢ None

  -- a state whose objects are the same has what it had
  pub grows_same : (s r : PlainState) → s.objects ≡ r.objects → Grows s r
  grows_same s r same = record {
    has = λ has. record {
      roots = sym (ap (λ (objects : ℕ → Option Object). size_of (objects 0)) same) ∙ has.roots;
      others = λ o object other is. has.others o object other (ap (λ (objects : ℕ → Option Object). objects o) same ∙ is);
    };
    stays = λ o there none. there (ap (λ (objects : ℕ → Option Object). objects o) same ∙ none);
  }

  -- over two steps a state keeps what it has of objects
  pub grows_then : (s r q : PlainState) → Grows s r → Grows r q → Grows s q
  grows_then s r q some others = record { has = λ has. others.has (some.has has); stays = λ o there. others.stays o (some.stays o there) }

  module _ (t : ThreadId) (s : PlainState) where
    module _ (class : ClassId) (n o : ℕ) where
      -- a new object isn't object 0
      new_roots : (b : Bool) → eqb 0 o ≡ b → 1 ≤ o → size_of (s.objects 0) ≡ shape.roots → size_of (or_old (cond b (Some (Some (new_object t class n))) None) (s.objects 0)) ≡ shape.roots
      new_roots true is real was = absurd (omega (arith, same_number 0 o is, real))
      new_roots false is real was = was

      -- a state with a new object that can be made has objects that can be made
      new_objects : 1 ≤ o → CanBeMade shape class n → HasObjects shape s → HasObjects shape (apply (made_new shape t class n o s) s)
      new_objects real made has = record {
        roots = new_roots (eqb 0 o) refl real has.roots;
        others = λ p object other. chosen Makeable (eqb p o) (Some (new_object t class n)) (s.objects p) (one_makeable (new_object t class n) made) (λ x. has.others p x other) object;
      }

      -- a new object leaves the objects that were there
      new_grows : 1 ≤ o → CanBeMade shape class n → Grows s (apply (made_new shape t class n o s) s)
      new_grows real made = record {
        has = new_objects real made;
        stays = λ p there. chosen (λ x. x ≢ None) (eqb p o) (Some (new_object t class n)) (s.objects p) (λ none. cc none) there;
      }

      -- the new object is there
      pub new_there : (apply (made_new shape t class n o s) s).objects o ≢ None
      new_there none = absurd (cc (sym (ap (λ b. or_old (cond b (Some (Some (new_object t class n))) None) (s.objects o)) (number_self o)) ∙ none))

    -- objects that become shared are still as they can be made
    put_objects : (o f : ℕ) (v : Value) → HasObjects shape s → HasObjects shape (apply (put t o f v true s) s)
    put_objects o f v has = record {
      roots = chosen (λ x. size_of x ≡ shape.roots) (published t v s 0) (shared (s.objects 0)) (s.objects 0) (shared_size (s.objects 0) ∙ has.roots) has.roots;
      others = λ p object other. chosen Makeable (published t v s p) (shared (s.objects p)) (s.objects p) (shared_makeable (s.objects p) (λ x. has.others p x other)) (λ x. has.others p x other) object;
    }

    -- a put leaves the objects that were there
    put_grows : (o f : ℕ) (v : Value) (b : Bool) → Grows s (apply (put t o f v b s) s)
    put_grows o f v true = record {
      has = put_objects o f v;
      stays = λ p there. chosen (λ x. x ≢ None) (published t v s p) (shared (s.objects p)) (s.objects p) (shared_there (s.objects p) there) there;
    }
    put_grows o f v false = grows_same s (apply (put t o f v false s) s) refl

    -- a read of a shared object leaves them
    read_shared_grows : (o f : ℕ) (hold : Option Hold) → Grows s (apply (read_shared t o f hold s) s)
    read_shared_grows o f None = grows_same s (apply (read_shared t o f None s) s) refl
    read_shared_grows o f (Some hold) = grows_same s (apply (read_shared t o f (Some hold) s) s) refl

    -- a read leaves the objects that were there
    read_grows : (o f : ℕ) (b : Bool) → Grows s (apply (read shape t o f b s) s)
    read_grows o f true = read_shared_grows o f (hold_on_guard shape t o f s)
    read_grows o f false = grows_same s (apply (read shape t o f false s) s) refl

    -- a notification leaves them
    notify_grows : (l : LockName) (woken : Option ThreadId) → Grows s (apply (notifies l woken) s)
    notify_grows l None = grows_same s (apply (notifies l None) s) refl
    notify_grows l (Some w) = grows_same s (apply (notifies l (Some w)) s) refl

    -- each act leaves the objects that were there
    act_grows : (request : Request) (reply : Reply) (woken : Option ThreadId) → AnswersRequest shape t request reply s → Grows s (apply (change_of shape t request reply woken s) s)
    act_grows (New class n) (Made o) woken may = new_grows class n o may.0 may.2
    act_grows (Get o f) (Val v) woken may = read_grows o f (is_shared (s.objects o))
    act_grows (Put o f v) Done woken may = put_grows o f v (is_shared (s.objects o))
    act_grows (Enter l level) Done woken may = grows_same s (apply (change_of shape t (Enter l level) Done woken s) s) refl
    act_grows (Exit l) Done woken may = grows_same s (apply (change_of shape t (Exit l) Done woken s) s) refl
    act_grows (Wait l) Done woken may = grows_same s (apply (change_of shape t (Wait l) Done woken s) s) refl
    act_grows (Timeout l) Done woken may = grows_same s (apply (change_of shape t (Timeout l) Done woken s) s) refl
    act_grows (Resume l) Done woken may = grows_same s (apply (change_of shape t (Resume l) Done woken s) s) refl
    act_grows (Notify l) Done woken may = notify_grows l woken
    act_grows (NotifyAll l) Done woken may = grows_same s (apply (change_of shape t (NotifyAll l) Done woken s) s) refl
    act_grows (Print v) Done woken may = grows_same s (apply (change_of shape t (Print v) Done woken s) s) refl
    act_grows (End fault) Done woken may = grows_same s (apply (change_of shape t (End fault) Done woken s) s) refl
    act_grows request reply woken may = grows_same s (apply (change_of shape t request reply woken s) s) refl

  -- each event leaves the objects that were there
  pub event_grows : (e : Event) (s : PlainState) → May shape e s → Grows s (after shape e s)
  event_grows (Act t request reply woken) s may = act_grows t s request reply woken may.answers
  event_grows (Lost client) s may = grows_same s (after shape (Lost client) s) refl

  -- a run leaves the objects that were there
  pub run_grows : (es : List Event) (s : PlainState) → Runs shape es s → Grows s (end_of shape es s)
  run_grows [] s runs = grows_same s s refl
  run_grows (e ∷ es) s runs = grows_then s (after shape e s) (end_of shape es (after shape e s)) (event_grows e s runs.0) (run_grows es (after shape e s) runs.1)
