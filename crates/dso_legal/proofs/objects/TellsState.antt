-- What the bodies and sets in a thread's hand tell of the parts of a state, and what a new object and a put make of it.
use Rattle.std.proofs.Common.{ℕ, ◌<◌, ◌≡◌, ◌⊎◌, refl, sym, ◌∙◌, ap, subst, Bool, true, false, cond, eqb, ◌&&◌, is_some, Option, Some, None, List, ◌∷◌, length}
use Rattle.std.specs.Prelude.{slice_get, slice_set}
use Rattle.std.proofs.lemmas.Bool.{eqb-false}
use Rattle.std.proofs.lemmas.List.{length-set}
use Rattle.dso_base.specs.declared.lock.ThreadId.{ThreadId}
use Rattle.dso_base.specs.declared.record.Body.{Body}
use Rattle.dso_base.specs.declared.record.Set.{Set}
use Rattle.dso_base.specs.declared.shape.Shape.{Shape}
use Rattle.dso_base.specs.declared.value.ClassId.{ClassId}
use Rattle.dso_base.specs.declared.value.Value.{Value}
use Rattle.dso_base.specs.Block.{body_in, with_value, opening_body}
use Rattle.dso_lookup.specs.Maps.{or_old}
use Rattle.dso_plain.specs.State.{Object, PlainState, IsShared, is_private_to, is_shared, size_of}
use Rattle.dso_plain.specs.Possible.{IsOf}
use Rattle.dso_plain.specs.After.{new_object, opening_field}
use Rattle.dso_plain.proofs.keys.SameKeys.{same_number, thread_self}
use Rattle.dso_plain.proofs.independence.LeavesOthers.{private_or_shared}
use Rattle.dso_law.specs.Copies.{value_by_sets}
use Rattle.dso_legal.proofs.objects.FoundBodies.{found_is, valued, found_valued, some_valued, set_there, set_elsewhere, opening_length, opening_values}
use Rattle.dso_legal.proofs.leases.LeaseSteps.{no_both}
use Rattle.dso_legal.proofs.blocks.LocksOfEvents.{either_way}

-- the object is the body's: of its class and size, with its values in its fields
pub record IsBodyOf (body : Body) (object : Option Object) (fields : ℕ → Option Value) : Type 0 where
  pub class : IsOf body.class (length body.values) object
  pub values : (f : ℕ) → fields f ≡ slice_get body.values f

-- What bodies, those published and sets tell of the parts of a state, by the state at the block's start.
pub record Told (t : ThreadId) (bodies published : List Body) (puts : List Set) (before : PlainState) (objects : ℕ → Option Object) (heap : ℕ × ℕ → Option Value) (past : ℕ × ℕ → List Value) : Type 0 where
  pub each : (o : ℕ) (body : Body) → body_in o bodies ≡ Some body → (is_private_to t (objects o) ≡ true) × IsBodyOf body (objects o) (λ f. heap (o, f))
  pub all : (o : ℕ) → is_private_to t (objects o) ≡ true → is_some (body_in o bodies) ≡ true
  pub news : (o : ℕ) (body : Body) → body_in o published ≡ Some body → (is_shared (objects o) ≡ true) × IsBodyOf body (objects o) (λ f. heap (o, f)) × (is_shared (before.objects o) ≡ false)
  pub shared : (o : ℕ) → is_shared (objects o) ≡ true → IsShared o before ⊎ (is_some (body_in o published) ≡ true)
  pub left_object : (o : ℕ) → IsShared o before → objects o ≡ before.objects o
  pub left_heap : (o f : ℕ) → IsShared o before → heap (o, f) ≡ value_by_sets o f puts (before.heap (o, f))
  pub left_past : (o f : ℕ) → IsShared o before → value_by_sets o f puts None ≡ None → past (o, f) ≡ before.past (o, f)
  pub sets : (o f : ℕ) → value_by_sets o f puts None ≡ None ⊎ IsShared o before

-- a body of an object of another value of these parts that is the same
pub body_kept : (body : Body) (object other : Option Object) (fields others : ℕ → Option Value) → other ≡ object → ((f : ℕ) → others f ≡ fields f) → IsBodyOf body object fields → IsBodyOf body other others
body_kept body object other fields others e same h = record { class = subst (IsOf body.class (length body.values)) (sym e) h.class; values = λ f. same f ∙ h.values f }

-- an object of a class and size has that size
pub size_is : (class : ClassId) (n : ℕ) (object : Option Object) → IsOf class n object → size_of object ≡ n
size_is class n None h = absurd h
size_is class n (Some object) h = h.1

-- there is one where some is found
pub some_found : {X : Type 0} (o : Option X) → is_some o ≡ true → (x : X) × (o ≡ Some x)
some_found None e = absurd (cc e)
some_found (Some x) e = (x, refl)

module _ (t : ThreadId) (bodies published : List Body) (puts : List Set) (before : PlainState) (objects : ℕ → Option Object) (heap : ℕ × ℕ → Option Value) (past : ℕ × ℕ → List Value)
    (told : Told t bodies published puts before objects heap past) where
  -- what was shared at the start is shared
  pub still_shared : (o : ℕ) → IsShared o before → is_shared (objects o) ≡ true
  still_shared o e = ap is_shared (told.left_object o e) ∙ e

  -- an object that passes a test is none that fails it
  pub apart : (test : Option Object → Bool) (p o : ℕ) → test (objects p) ≡ true → test (objects o) ≡ false → eqb p o ≡ false
  apart test p o holds fails = by (eqb p o) refl
    where
      by : (b : Bool) → eqb p o ≡ b → b ≡ false
      by true e = no_both (test (objects p)) holds (ap (λ n. test (objects n)) (same_number p o e) ∙ fails)
      by false e = refl

  -- a new object of the thread
  module _ (shape : Shape) (class : ClassId) (n o : ℕ) (absent : objects o ≡ None) where
    -- the objects with it
    abbrev pub new_objects : ℕ → Option Object
    new_objects p = or_old (cond (eqb p o) (Some (Some (new_object t class n))) None) (objects p)

    -- the fields with its own
    abbrev pub new_heap : ℕ × ℕ → Option Value
    new_heap key = or_old (cond (eqb key.0 o) (Some (opening_field shape class n key.1)) None) (heap key)

    -- its body
    abbrev New : Body
    New = opening_body shape class n o

    -- each body, with the new one
    new_each : (p : ℕ) (body : Body) (b : Bool) → cond b (Some New) (body_in p bodies) ≡ Some body
        → (is_private_to t (or_old (cond b (Some (Some (new_object t class n))) None) (objects p)) ≡ true) × IsBodyOf body (or_old (cond b (Some (Some (new_object t class n))) None) (objects p)) (λ f. or_old (cond b (Some (opening_field shape class n f)) None) (heap (p, f)))
    new_each p body true e = (
      thread_self t,
      subst (λ body. IsBodyOf body (Some (new_object t class n)) (λ f. opening_field shape class n f)) (let same : New ≡ body = cc e in same)
          (record { class = (refl, sym (opening_length shape class 0 n)); values = opening_values shape class n }),
    )
    new_each p body false e = told.each p body e

    -- each private object, with the new one
    new_all : (p : ℕ) (b : Bool) → is_private_to t (or_old (cond b (Some (Some (new_object t class n))) None) (objects p)) ≡ true → is_some (cond b (Some New) (body_in p bodies)) ≡ true
    new_all p true e = refl
    new_all p false e = told.all p e

    -- a shared object is none that is new
    not_new : (p : ℕ) → is_shared (objects p) ≡ true → eqb p o ≡ false
    not_new p e = apart is_shared p o e (ap is_shared absent)

    -- so it is as it was
    same_object : (p : ℕ) → is_shared (objects p) ≡ true → new_objects p ≡ objects p
    same_object p e = ap (λ b. or_old (cond b (Some (Some (new_object t class n))) None) (objects p)) (not_new p e)

    -- and so are its fields
    same_field : (p f : ℕ) → is_shared (objects p) ≡ true → new_heap (p, f) ≡ heap (p, f)
    same_field p f e = ap (λ b. or_old (cond b (Some (opening_field shape class n f)) None) (heap (p, f))) (not_new p e)

    -- a shared object was shared
    new_shared : (p : ℕ) (b : Bool) → is_shared (or_old (cond b (Some (Some (new_object t class n))) None) (objects p)) ≡ true → IsShared p before ⊎ (is_some (body_in p published) ≡ true)
    new_shared p true e = absurd (cc e)
    new_shared p false e = told.shared p e

    -- what is told with the new body
    pub told_new : Told t (New ∷ bodies) published puts before new_objects new_heap past
    told_new = record {
      each = λ p body e. new_each p body (eqb p o) (ap (λ b. cond b (Some New) (body_in p bodies)) (either_way p o) ∙ e);
      all = λ p e. ap (λ b. is_some (cond b (Some New) (body_in p bodies))) (either_way o p) ∙ new_all p (eqb p o) e;
      news = λ p body e. let it = told.news p body e in
          (ap is_shared (same_object p it.0) ∙ it.0, body_kept body (objects p) (new_objects p) (λ f. heap (p, f)) (λ f. new_heap (p, f)) (same_object p it.0) (λ f. same_field p f it.0) it.1, it.2);
      shared = λ p e. new_shared p (eqb p o) e;
      left_object = λ p e. same_object p (still_shared p e) ∙ told.left_object p e;
      left_heap = λ p f e. same_field p f (still_shared p e) ∙ told.left_heap p f e;
      left_past = told.left_past;
      sets = told.sets;
    }

  -- a value put in a field that the object has
  module _ (o f : ℕ) (v : Value) (has : f < size_of (objects o)) where
    -- the fields with it
    abbrev pub put_heap : ℕ × ℕ → Option Value
    put_heap key = or_old (cond (eqb key.0 o && eqb key.1 f) (Some (Some v)) None) (heap key)

    -- another object's fields are as they were
    pub put_elsewhere : (p g : ℕ) → eqb p o ≡ false → put_heap (p, g) ≡ heap (p, g)
    put_elsewhere p g e = ap (λ b. or_old (cond (b && eqb g f) (Some (Some v)) None) (heap (p, g))) e

    -- a value of the body
    put_value : (p g : ℕ) (was : Body) (b : Bool) → eqb g f ≡ b → f < length was.values → heap (p, g) ≡ slice_get was.values g → or_old (cond b (Some (Some v)) None) (heap (p, g)) ≡ slice_get (slice_set was.values f v) g
    put_value p g was true e less same = sym (ap (slice_get (slice_set was.values f v)) (same_number g f e) ∙ set_there was.values f v less)
    put_value p g was false e less same = same ∙ sym (set_elsewhere was.values f g v (eqb-false g f e))

    -- the body of the object with the value, or of another
    put_in_it : (p : ℕ) (was : Body) (b : Bool) → eqb p o ≡ b → IsBodyOf was (objects p) (λ g. heap (p, g))
        → IsBodyOf (cond b (record was { values = slice_set was.values f v }) was) (objects p) (λ g. or_old (cond (b && eqb g f) (Some (Some v)) None) (heap (p, g)))
    put_in_it p was false e h = h
    put_in_it p was true e h =
        let size : size_of (objects o) ≡ length was.values = ap (λ n. size_of (objects n)) (sym (same_number p o e)) ∙ size_is was.class (length was.values) (objects p) h.class in
        let less : f < length was.values = subst (λ n. f < n) size has in
        record {
          class = subst (λ n. IsOf was.class n (objects p)) (sym (length-set was.values f v)) h.class;
          values = λ g. put_value p g was (eqb g f) refl less (h.values g);
        }

    -- a body with the value, if it is the object's, is that of the object with it
    pub valued_body : (p : ℕ) (was : Body) → was.object ≡ p → IsBodyOf was (objects p) (λ g. heap (p, g)) → IsBodyOf (valued o f v was) (objects p) (λ g. put_heap (p, g))
    valued_body p was its h = subst (λ n. IsBodyOf (cond (eqb n o) (record was { values = slice_set was.values f v }) was) (objects p) (λ g. put_heap (p, g))) (sym its) (put_in_it p was (eqb p o) refl h)

    -- what is told of a private object that has the value
    pub told_put_private : is_private_to t (objects o) ≡ true → Told t (with_value o f v bodies) published puts before objects put_heap past
    told_put_private own = record {
      each = λ p body e.
          let it = found_valued p o f v bodies body e in
          let was = told.each p it.0 it.1 in
          (was.0, subst (λ body. IsBodyOf body (objects p) (λ g. put_heap (p, g))) (sym it.2) (valued_body p it.0 (found_is p bodies it.0 it.1) was.1));
      all = λ p e. some_valued p o f v bodies ∙ told.all p e;
      news = λ p body e. let it = told.news p body e in
          (it.0, body_kept body (objects p) (objects p) (λ g. heap (p, g)) (λ g. put_heap (p, g)) refl (λ g. put_elsewhere p g (other p it.0)) it.1, it.2);
      shared = told.shared;
      left_object = told.left_object;
      left_heap = λ p g e. put_elsewhere p g (other p (still_shared p e)) ∙ told.left_heap p g e;
      left_past = told.left_past;
      sets = told.sets;
    }
      where
        other : (p : ℕ) → is_shared (objects p) ≡ true → eqb p o ≡ false
        other p e = apart is_shared p o e (not_shared (is_shared (objects o)) refl)
          where
            not_shared : (b : Bool) → is_shared (objects o) ≡ b → b ≡ false
            not_shared true e = private_or_shared t (objects o) own e
            not_shared false e = refl
