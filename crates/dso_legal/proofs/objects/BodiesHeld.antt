-- What published bodies give to copies: of an object that stands among them once, its class and its values.
use Rattle.std.specs.List.{list_any}
use Rattle.std.proofs.Common.{ℕ, ◌+◌, ◌≤◌, ◌≡◌, refl, ◌∙◌, ap, Bool, true, false, cond, eqb, ◌||◌, ◌&&◌, Option, Some, List, [], ◌∷◌, length, slice_get, arith}
use Rattle.dso_base.specs.Block.{body_in}
use Rattle.dso_base.specs.declared.record.Body.{Body}
use Rattle.dso_base.specs.declared.record.Set.{Set}
use Rattle.dso_base.specs.declared.value.ClassId.{ClassId}
use Rattle.dso_base.specs.declared.value.Value.{Value}
use Rattle.dso_plain.proofs.keys.SameKeys.{same_number}
use Rattle.dso_law.specs.Copies.{is_among, value_by_bodies, class_by_bodies, is_set_of, value_by_sets}
use Rattle.dso_legal.specs.OwnObjects.{count_bodies}
use Rattle.dso_legal.specs.Residency.{is_set}
use Rattle.dso_legal.proofs.leases.ClientLeases.{neither}

-- bodies of other objects give nothing
pub value_elsewhere : (o f : ℕ) (bodies : List Body) (v : Option Value) → is_among o bodies ≡ false → value_by_bodies o f bodies v ≡ v
value_elsewhere o f [] v none = refl
value_elsewhere o f (body ∷ bodies) v none =
    let apart : (eqb body.object o ≡ false) × (is_among o bodies ≡ false) = neither (eqb body.object o) (is_among o bodies) none in
    ap (λ b. value_by_bodies o f bodies (cond b (slice_get body.values f) v)) apart.0 ∙ value_elsewhere o f bodies v apart.1

pub class_elsewhere : (o : ℕ) (bodies : List Body) (class : Option (ClassId × ℕ)) → is_among o bodies ≡ false → class_by_bodies o bodies class ≡ class
class_elsewhere o [] class none = refl
class_elsewhere o (body ∷ bodies) class none =
    let apart : (eqb body.object o ≡ false) × (is_among o bodies ≡ false) = neither (eqb body.object o) (is_among o bodies) none in
    ap (λ b. class_by_bodies o bodies (cond b (Some (body.class, length body.values)) class)) apart.0 ∙ class_elsewhere o bodies class apart.1

-- a body of the object that is found
pub record IsFound (o : ℕ) (bodies : List Body) : Type 0 where
  pub body : Body
  pub found : body_in o bodies ≡ Some body
  pub its : body.object ≡ o
  pub values : (f : ℕ) (v : Option Value) → value_by_bodies o f bodies v ≡ slice_get body.values f
  pub class : (class : Option (ClassId × ℕ)) → class_by_bodies o bodies class ≡ Some (body.class, length body.values)

-- none is left behind the only one
no_more : (n : ℕ) → 1 + n ≤ 1 → n ≡ 0
no_more n few = omega (arith, few)

none_counted : (o : ℕ) (bodies : List Body) → count_bodies o bodies ≡ 0 → is_among o bodies ≡ false
none_counted o [] none = refl
none_counted o (body ∷ bodies) none = by (eqb body.object o) none (none_counted o bodies)
  where
    not_one : (n : ℕ) → 1 + n ≡ 0 → ⊥
    not_one n e = omega (arith, e)

    only : (n : ℕ) → 0 + n ≡ 0 → n ≡ 0
    only n e = omega (arith, e)

    by : (b : Bool) → cond b 1 0 + count_bodies o bodies ≡ 0 → (count_bodies o bodies ≡ 0 → is_among o bodies ≡ false) → (b || is_among o bodies) ≡ false
    by true e later = absurd (not_one (count_bodies o bodies) e)
    by false e later = later (only (count_bodies o bodies) e)

-- An object that stands among the bodies once is found, and gives its class and values.
pub found_once : (o : ℕ) (bodies : List Body) → count_bodies o bodies ≤ 1 → is_among o bodies ≡ true → IsFound o bodies
found_once o [] once among = absurd (cc among)
found_once o (body ∷ bodies) once among = by (eqb body.object o) refl once among (found_once o bodies)
  where
    fewer : (n : ℕ) → 0 + n ≤ 1 → n ≤ 1
    fewer n few = omega (arith, few)

    by : (b : Bool) → eqb body.object o ≡ b → cond b 1 0 + count_bodies o bodies ≤ 1 → (b || is_among o bodies) ≡ true → (count_bodies o bodies ≤ 1 → is_among o bodies ≡ true → IsFound o bodies) → IsFound o (body ∷ bodies)
    by true is few there later =
        let none : is_among o bodies ≡ false = none_counted o bodies (no_more (count_bodies o bodies) few) in
        record {
          body = body;
          found = ap (λ b. cond b (Some body) (body_in o bodies)) is;
          its = same_number body.object o is;
          values = λ f v. ap (λ b. value_by_bodies o f bodies (cond b (slice_get body.values f) v)) is ∙ value_elsewhere o f bodies (slice_get body.values f) none;
          class = λ class. ap (λ b. class_by_bodies o bodies (cond b (Some (body.class, length body.values)) class)) is ∙ class_elsewhere o bodies (Some (body.class, length body.values)) none;
        }
    by false is few there later =
        let f : IsFound o bodies = later (fewer (count_bodies o bodies) few) there in
        record {
          body = f.body;
          found = ap (λ b. cond b (Some body) (body_in o bodies)) is ∙ f.found;
          its = f.its;
          values = λ field v. ap (λ b. value_by_bodies o field bodies (cond b (slice_get body.values field) v)) is ∙ f.values field v;
          class = λ class. ap (λ b. class_by_bodies o bodies (cond b (Some (body.class, length body.values)) class)) is ∙ f.class class;
        }

-- where one of the sets is of the field, what was before makes no difference
pub set_anew : (o f : ℕ) (sets : List Set) (a b : Option Value) → list_any (is_set_of o f) sets ≡ true → value_by_sets o f sets a ≡ value_by_sets o f sets b
set_anew o f [] a b is = absurd (cc is)
set_anew o f (set ∷ sets) a b is = by (is_set_of o f set) is (set_anew o f sets a b)
  where
    by : (t : Bool) → (t || list_any (is_set_of o f) sets) ≡ true → (list_any (is_set_of o f) sets ≡ true → value_by_sets o f sets a ≡ value_by_sets o f sets b)
        → value_by_sets o f sets (cond t (Some set.value) a) ≡ value_by_sets o f sets (cond t (Some set.value) b)
    by true is later = refl
    by false is later = later is

-- and it is one of the object
pub set_of_object : (o f : ℕ) (sets : List Set) → list_any (is_set_of o f) sets ≡ true → is_set o sets ≡ true
set_of_object o f [] is = absurd (cc is)
set_of_object o f (set ∷ sets) is = by (eqb set.object o) (eqb set.field f) is (set_of_object o f sets)
  where
    by : (a b : Bool) → ((a && b) || list_any (is_set_of o f) sets) ≡ true → (list_any (is_set_of o f) sets ≡ true → is_set o sets ≡ true) → (a || is_set o sets) ≡ true
    by true b is later = refl
    by false b is later = later is
