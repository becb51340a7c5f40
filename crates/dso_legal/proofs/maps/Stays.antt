-- What an act leaves as it was: the classes of objects, and the fields of those that it doesn't write.
use Rattle.std.proofs.Common.{ℕ, ◌≡◌, ◌≢◌, refl, ap, Bool, true, false, cond, eqb, ◌&&◌, Option, Some, None}
use Rattle.std.proofs.lemmas.Bool.{ne_eqb}
use Rattle.dso_base.specs.declared.lock.LockName.{LockName}
use Rattle.dso_base.specs.declared.lock.ThreadId.{ThreadId}
use Rattle.dso_base.specs.declared.request.Reply.{Reply}
use Rattle.dso_base.specs.declared.request.Reply.TheVariants.{Done, Made, Val}
use Rattle.dso_base.specs.declared.request.Request.{Request}
use Rattle.dso_base.specs.declared.request.Request.TheVariants.{New, Get, Put, Enter, Exit, Wait, Timeout, Resume, Notify, NotifyAll, Print, End}
use Rattle.dso_base.specs.declared.shape.Shape.{Shape}
use Rattle.dso_base.specs.declared.value.ClassId.{ClassId}
use Rattle.dso_base.specs.declared.value.Value.{Value}
use Rattle.dso_lookup.specs.Maps.{or_old}
use Rattle.dso_plain.specs.State.{Object, Hold, PlainState, is_shared, hold_on_guard}
use Rattle.dso_plain.specs.After.{apply, change_of, read, read_shared, put, notifies, shared, published, opening_field}

-- the class of an object that is there
abbrev pub class_at : Option Object → Option ClassId
class_at None = None
class_at (Some object) = Some object.class

-- the object's class and its fields are as they were
pub record StaysAt (x : ℕ) (s r : PlainState) : Type 0 where
  pub class : class_at (r.objects x) ≡ class_at (s.objects x)
  pub heap : (f : ℕ) → r.heap (x, f) ≡ s.heap (x, f)

-- the act neither writes the object nor makes it
abbrev pub IsBeside : ℕ → Request → Reply → Type 0
IsBeside x (New class n) (Made o) = x ≢ o
IsBeside x (Put o f v) r = x ≢ o
IsBeside x q r = Unit {0}

-- what is published has its class
shared_class : (b : Bool) (x : Option Object) → class_at (or_old (cond b (Some (shared x)) None) x) ≡ class_at x
shared_class true None = refl
shared_class true (Some object) = refl
shared_class false x = refl

module _ (shape : Shape) (t : ThreadId) (s : PlainState) (x : ℕ) where
  -- all stays
  still : StaysAt x s s
  still = record { class = refl; heap = λ f. refl }

  -- a put leaves all classes,
  pub put_class : (o f : ℕ) (v : Value) (b : Bool) → class_at ((apply (put t o f v b s) s).objects x) ≡ class_at (s.objects x)
  put_class o f v true = shared_class (published t v s x) (s.objects x)
  put_class o f v false = refl

  -- and the fields of other objects
  put_heap : (o f : ℕ) (v : Value) (b : Bool) → x ≢ o → (g : ℕ) → (apply (put t o f v b s) s).heap (x, g) ≡ s.heap (x, g)
  put_heap o f v true other g = ap (λ c. or_old (cond (c && eqb g f) (Some (Some v)) None) (s.heap (x, g))) (ne_eqb x o other)
  put_heap o f v false other g = ap (λ c. or_old (cond (c && eqb g f) (Some (Some v)) None) (s.heap (x, g))) (ne_eqb x o other)

  put_stays : (o f : ℕ) (v : Value) (b : Bool) → x ≢ o → StaysAt x s (apply (put t o f v b s) s)
  put_stays o f v b other = record { class = put_class o f v b; heap = put_heap o f v b other }

  -- a read leaves all
  read_held : (o f : ℕ) (hold : Option Hold) → StaysAt x s (apply (read_shared t o f hold s) s)
  read_held o f None = record { class = refl; heap = λ g. refl }
  read_held o f (Some hold) = record { class = refl; heap = λ g. refl }

  pub read_stays : (o f : ℕ) (b : Bool) → StaysAt x s (apply (read shape t o f b s) s)
  read_stays o f true = read_held o f (hold_on_guard shape t o f s)
  read_stays o f false = record { class = refl; heap = λ g. refl }

  notify_stays : (l : LockName) (woken : Option ThreadId) → StaysAt x s (apply (notifies l woken) s)
  notify_stays l None = record { class = refl; heap = λ g. refl }
  notify_stays l (Some w) = record { class = refl; heap = λ g. refl }

  -- An act leaves an object that it neither writes nor makes.
  pub act_stays : (q : Request) (r : Reply) (woken : Option ThreadId) → IsBeside x q r → StaysAt x s (apply (change_of shape t q r woken s) s)
  act_stays (New class n) (Made o) woken beside = record {
    class = ap (λ c. class_at (or_old (cond c (Some (Some (record { class = class; size = n; owner = Some t }))) None) (s.objects x))) (ne_eqb x o beside);
    heap = λ f. ap (λ c. or_old (cond c (Some (opening_field shape class n f)) None) (s.heap (x, f))) (ne_eqb x o beside);
  }
  act_stays (Get o f) (Val v) woken beside = read_stays o f (is_shared (s.objects o))
  act_stays (Put o f v) Done woken beside = put_stays o f v (is_shared (s.objects o)) beside
  act_stays (Notify l) Done woken beside = notify_stays l woken
  act_stays (Enter l level) Done woken beside = record { class = refl; heap = λ f. refl }
  act_stays (Exit l) Done woken beside = record { class = refl; heap = λ f. refl }
  act_stays (Wait l) Done woken beside = record { class = refl; heap = λ f. refl }
  act_stays (Timeout l) Done woken beside = record { class = refl; heap = λ f. refl }
  act_stays (Resume l) Done woken beside = record { class = refl; heap = λ f. refl }
  act_stays (NotifyAll l) Done woken beside = record { class = refl; heap = λ f. refl }
  act_stays (Print v) Done woken beside = record { class = refl; heap = λ f. refl }
  act_stays (End fault) Done woken beside = record { class = refl; heap = λ f. refl }
  act_stays q r woken beside = record { class = refl; heap = λ f. refl }
