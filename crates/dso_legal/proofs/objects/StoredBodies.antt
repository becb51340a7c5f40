-- What a record makes of a body that the server has: news give one, sets change values of it.
use Rattle.std.specs.List.{AllByRecursion}
use Rattle.std.proofs.Common.{ℕ, zero, suc, ◌+◌, ◌<◌, ◌≤◌, ◌≡◌, ◌≢◌, refl, sym, ◌∙◌, ap, subst, Bool, true, false, cond, eqb, ltb, ◌&&◌, Option, Some, None, List, [], ◌∷◌, length, slice_get, arith}
use Rattle.std.specs.Prelude.{slice_set, replicate}
use Rattle.std.proofs.lemmas.Bool.{ltb-true, ltb-false}
use Rattle.std.proofs.lemmas.List.{length-replicate}
use Rattle.std.proofs.lemmas.Option.{slice_get_past}
use Rattle.dso_base.specs.Block.{body_in}
use Rattle.dso_base.specs.declared.record.Body.{Body}
use Rattle.dso_base.specs.declared.record.Set.{Set}
use Rattle.dso_base.specs.declared.value.Value.{Value}
use Rattle.dso_plain.proofs.keys.SameKeys.{same_number, number_self}
use Rattle.dso_law.specs.Copies.{value_by_sets}
use Rattle.dso_law.specs.Store.{body_with, body_by_news, body_by_sets}
use Rattle.dso_legal.specs.OwnObjects.{count_bodies}
use Rattle.dso_legal.specs.Residency.{is_set}
use Rattle.dso_legal.proofs.leases.ClientLeases.{neither}

-- bodies of other objects give none
pub news_elsewhere : (o : ℕ) (bodies : List Body) (before : Option Body) → body_in o bodies ≡ None → body_by_news o bodies before ≡ before
news_elsewhere o [] before none = refl
news_elsewhere o (body ∷ bodies) before none = by (eqb body.object o) none (news_elsewhere o bodies before)
  where
    by : (b : Bool) → cond b (Some body) (body_in o bodies) ≡ None → (body_in o bodies ≡ None → body_by_news o bodies before ≡ before) → body_by_news o bodies (cond b (Some body) before) ≡ before
    by true none later = absurd (cc none)
    by false none later = later none

-- where none of the bodies is of the object, none is found
none_in : (o : ℕ) (bodies : List Body) → count_bodies o bodies ≡ 0 → body_in o bodies ≡ None
none_in o [] none = refl
none_in o (body ∷ bodies) none = by (eqb body.object o) none (none_in o bodies)
  where
    not_one : (n : ℕ) → 1 + n ≡ 0 → ⊥
    not_one n e = omega (arith, e)

    only : (n : ℕ) → 0 + n ≡ 0 → n ≡ 0
    only n e = omega (arith, e)

    by : (b : Bool) → cond b 1 0 + count_bodies o bodies ≡ 0 → (count_bodies o bodies ≡ 0 → body_in o bodies ≡ None) → cond b (Some body) (body_in o bodies) ≡ None
    by true e later = absurd (not_one (count_bodies o bodies) e)
    by false e later = later (only (count_bodies o bodies) e)

-- the only one of the bodies that is of the object is the one they give
pub news_found : (o : ℕ) (bodies : List Body) (found : Body) (before : Option Body) → count_bodies o bodies ≤ 1 → body_in o bodies ≡ Some found → body_by_news o bodies before ≡ Some found
news_found o [] found before once is = absurd (cc is)
news_found o (body ∷ bodies) found before once is = by (eqb body.object o) once is (news_found o bodies found before)
  where
    no_more : (n : ℕ) → 1 + n ≤ 1 → n ≡ 0
    no_more n few = omega (arith, few)

    fewer : (n : ℕ) → 0 + n ≤ 1 → n ≤ 1
    fewer n few = omega (arith, few)

    by : (b : Bool) → cond b 1 0 + count_bodies o bodies ≤ 1 → cond b (Some body) (body_in o bodies) ≡ Some found → (count_bodies o bodies ≤ 1 → body_in o bodies ≡ Some found → body_by_news o bodies before ≡ Some found)
        → body_by_news o bodies (cond b (Some body) before) ≡ Some found
    by true few is later = news_elsewhere o bodies (Some body) (none_in o bodies (no_more (count_bodies o bodies) few)) ∙ is
    by false few is later = later (fewer (count_bodies o bodies) few) is

-- sets of other objects leave a body
pub sets_elsewhere : (o : ℕ) (sets : List Set) (before : Option Body) → is_set o sets ≡ false → body_by_sets o sets before ≡ before
sets_elsewhere o [] before none = refl
sets_elsewhere o (set ∷ sets) before none =
    let apart = neither (eqb set.object o) (is_set o sets) none in
    ap (λ b. body_by_sets o sets (cond b (body_with set before) before)) apart.0 ∙ sets_elsewhere o sets before apart.1

-- sets give no body where there is none
pub sets_of_none : (o : ℕ) (sets : List Set) → body_by_sets o sets None ≡ None
sets_of_none o [] = refl
sets_of_none o (set ∷ sets) = by (eqb set.object o) (sets_of_none o sets)
  where
    by : (b : Bool) → body_by_sets o sets None ≡ None → body_by_sets o sets (cond b None None) ≡ None
    by true later = later
    by false later = later

-- a value that is set is in its place
set_here : (values : List Value) (i : ℕ) (v : Value) → i < length values → slice_get (slice_set values i v) i ≡ Some v
set_here [] i v within = absurd (omega (arith, within))
set_here (x ∷ values) zero v within = refl
set_here (x ∷ values) (suc i) v within = set_here values i v (omega (arith, within))

-- and the others are in theirs
set_apart : (values : List Value) (i f : ℕ) (v : Value) → i ≢ f → slice_get (slice_set values i v) f ≡ slice_get values f
set_apart [] i f v other = refl
set_apart (x ∷ values) zero zero v other = absurd (other refl)
set_apart (x ∷ values) zero (suc f) v other = refl
set_apart (x ∷ values) (suc i) zero v other = refl
set_apart (x ∷ values) (suc i) (suc f) v other = set_apart values i f v (λ same. other (ap suc same))

-- so a value that is set stands in its place alone
pub set_there : (values : List Value) (i f : ℕ) (v : Value) → i < length values → slice_get (slice_set values i v) f ≡ cond (eqb i f) (Some v) (slice_get values f)
set_there values i f v within = by (eqb i f) refl
  where
    by : (b : Bool) → eqb i f ≡ b → slice_get (slice_set values i v) f ≡ cond b (Some v) (slice_get values f)
    by true is = subst (λ n. slice_get (slice_set values i v) n ≡ Some v) (same_number i f is) (set_here values i v within)
    by false is = set_apart values i f v (λ same. absurd (cc (sym (subst (λ n. eqb i n ≡ true) same (number_self i)) ∙ is)))

-- and they are as many as before
pub as_many_set : (values : List Value) (i : ℕ) (v : Value) → length (slice_set values i v) ≡ length values
as_many_set [] i v = refl
as_many_set (x ∷ values) zero v = refl
as_many_set (x ∷ values) (suc i) v = ap suc (as_many_set values i v)

-- a set of the object is of one of so many fields
abbrev pub IsWithin : ℕ → ℕ → Set → Type 0
IsWithin o n set = eqb set.object o ≡ true → set.field < n

-- the body that sets make of one: of the same class and size, with the values of the sets
pub record MadeBySets (o : ℕ) (sets : List Set) (body : Body) : Type 0 where
  pub now : Body
  pub is : body_by_sets o sets (Some body) ≡ Some now
  pub class : now.class ≡ body.class
  pub size : length now.values ≡ length body.values
  pub values : (f : ℕ) → slice_get now.values f ≡ value_by_sets o f sets (slice_get body.values f)

-- the body with the value of a set
abbrev changed : Set → Body → Body
changed set body = record body { values = slice_set body.values set.field set.value }

-- with a set of the object first
more_made : (o : ℕ) (set : Set) (sets : List Set) (body : Body) → eqb set.object o ≡ true → set.field < length body.values → MadeBySets o sets (changed set body) → MadeBySets o (set ∷ sets) body
more_made o set sets body is within rest = record {
  now = rest.now;
  is = ap (λ b. body_by_sets o sets (cond b (Some (changed set body)) (Some body))) is ∙ rest.is;
  class = rest.class;
  size = rest.size ∙ as_many_set body.values set.field set.value;
  values = λ f. rest.values f ∙ ap (value_by_sets o f sets) (set_there body.values set.field f set.value within)
      ∙ sym (ap (λ b. value_by_sets o f sets (cond (b && eqb set.field f) (Some set.value) (slice_get body.values f))) is);
}

-- with a set of another object first
other_made : (o : ℕ) (set : Set) (sets : List Set) (body : Body) → eqb set.object o ≡ false → MadeBySets o sets body → MadeBySets o (set ∷ sets) body
other_made o set sets body is rest = record {
  now = rest.now;
  is = ap (λ b. body_by_sets o sets (cond b (Some (changed set body)) (Some body))) is ∙ rest.is;
  class = rest.class;
  size = rest.size;
  values = λ f. rest.values f ∙ sym (ap (λ b. value_by_sets o f sets (cond (b && eqb set.field f) (Some set.value) (slice_get body.values f))) is);
}

-- Sets of its fields change a body so.
pub made_by_sets : (o : ℕ) (sets : List Set) (body : Body) → AllByRecursion (IsWithin o (length body.values)) sets → MadeBySets o sets body
made_by_sets o [] body within = record { now = body; is = refl; class = refl; size = refl; values = λ f. refl }
made_by_sets o (set ∷ sets) body within =
    by (eqb set.object o) refl
    (made_by_sets o sets (changed set body) (subst (λ n. AllByRecursion (IsWithin o n) sets) (sym (as_many_set body.values set.field set.value)) within.1))
    (made_by_sets o sets body within.1)
  where
    by : (b : Bool) → eqb set.object o ≡ b → MadeBySets o sets (changed set body) → MadeBySets o sets body → MadeBySets o (set ∷ sets) body
    by true is more same = more_made o set sets body is (within.0 is) more
    by false is more same = other_made o set sets body is same

-- a value of so many equal ones
one_of_many : (n f : ℕ) (v : Value) → f < n → slice_get (replicate n v) f ≡ Some v
one_of_many zero f v within = absurd (omega (arith, within))
one_of_many (suc n) zero v within = refl
one_of_many (suc n) (suc f) v within = one_of_many n f v (omega (arith, within))

-- each of them, and none past them
pub value_of_many : (n f : ℕ) (v : Value) → cond (ltb f n) (Some v) None ≡ slice_get (replicate n v) f
value_of_many n f v = by (ltb f n) refl
  where
    by : (b : Bool) → ltb f n ≡ b → cond b (Some v) None ≡ slice_get (replicate n v) f
    by true is = sym (one_of_many n f v (ltb-true f n is))
    by false is = sym (slice_get_past (replicate n v) f (subst (λ m. m ≤ f) (sym (length-replicate n v)) (ltb-false f n is)))
