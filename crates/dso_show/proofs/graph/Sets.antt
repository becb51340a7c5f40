-- The objects of a graph listed, once sets that fit it are written.
use Rattle.std.proofs.Common.{ℕ, zero, suc, ◌≡◌, ◌+◌, refl, sym, ◌∙◌, ap, subst, arith, Bool, true, false, cond, eqb, is_some, List, [], ◌∷◌, length, Option, Some, None}
use Rattle.std.specs.List.{AllByRecursion}
use Rattle.std.specs.Prelude.{slice_set}
use Rattle.std.specs.Option.{IfSome}
use Rattle.std.proofs.lemmas.Bool.{eqb-true}
use Rattle.std.proofs.lemmas.List.{length-set}
use Rattle.dso_base.specs.declared.record.Body.{Body}
use Rattle.dso_base.specs.declared.record.Set.{Set}
use Rattle.dso_base.specs.declared.shape.Shape.{Shape}
use Rattle.dso_base.specs.declared.value.ClassId.{ClassId}
use Rattle.dso_base.specs.declared.value.Value.{Value}
use Rattle.dso_base.specs.Shape.{kind_of}
use Rattle.dso_base.specs.Value.{Fits}
use Rattle.dso_law.specs.FitsDown.{FitFrom, HasSize}
use Rattle.dso_law.specs.Store.{body_by_sets, body_with}
use Rattle.dso_store.specs.Graph.{with_sets}
use Rattle.dso_keep.specs.Records.{FitsField}
use Rattle.dso_show.proofs.graph.Listed.{IsBodyOf, IsListed, Names}

-- what holds of each holds of each with one more in place of another
all_set : {X : Type 0} (P : X → Type 0) (xs : List X) (i : ℕ) (x : X) → AllByRecursion P xs → P x → AllByRecursion P (slice_set xs i x)
all_set P [] i x all here = tt
all_set P (y ∷ xs) zero x all here = (here, all.1)
all_set P (y ∷ xs) (suc i) x all here = (all.0, all_set P xs i x all.1 here)

-- values fit their fields with one that fits its field set
fit_set : (shape : Shape) (c : ClassId) (f i field : ℕ) (vs : List Value) (v : Value) → field ≡ f + i → FitFrom shape c f vs → Fits (kind_of shape c field) v → FitFrom shape c f (slice_set vs i v)
fit_set shape c f i field [] v at fit fits = tt
fit_set shape c f zero field (x ∷ vs) v at fit fits =
    let here : field ≡ f = omega (arith, at) in
    (subst (λ n. Fits (kind_of shape c n) v) here fits, fit.1)
fit_set shape c f (suc i) field (x ∷ vs) v at fit fits = (fit.0, fit_set shape c (suc f) i field vs v (omega (arith, at)) fit.1 fits)

-- sets make nothing and take nothing away
some_sets : (o : ℕ) (sets : List Set) (before : Option Body) → is_some (body_by_sets o sets before) ≡ is_some before
some_sets o [] before = refl
some_sets o (set ∷ sets) before = some_sets o sets (cond (eqb set.object o) (body_with set before) before) ∙ by (eqb set.object o) before
  where
    by : (b : Bool) (before : Option Body) → is_some (cond b (body_with set before) before) ≡ is_some before
    by true None = refl
    by true (Some body) = refl
    by false before = refl

none_held : (P : Body → Type 0) (found : Option Body) → is_some found ≡ false → IfSome found P
none_held P None none = tt
none_held P (Some body) none = absurd (cc none)

-- the set fits the body found, and names what is listed
abbrev pub FitsIn : Shape → List ℕ → Option Body → Set → Type 0
FitsIn shape objects found set = FitsField shape set found × Names shape objects set.value

module _ (shape : Shape) (objects : List ℕ) (o : ℕ) (first : Body) where
  -- the object's body, of the class and size of the first one
  record IsHeld (body : Body) : Type 0 where
    is : IsBodyOf shape objects o body
    class : body.class ≡ first.class
    size : length body.values ≡ length first.values

  -- with the value of a set it is so still
  one_set : (set : Set) (body : Body) → FitsIn shape objects (Some first) set → IsHeld body → IsHeld (record body { values = slice_set body.values set.field set.value })
  one_set set body fits held =
      let as_many = length-set body.values set.field set.value in
      let kind_fits : Fits (kind_of shape body.class set.field) set.value = subst (λ c. Fits (kind_of shape c set.field) set.value) (sym held.class) fits.0.1 in
      let same : set.field ≡ 0 + set.field = omega arith in
      record {
        is = record {
          object = held.is.object;
          class = held.is.class;
          shaped = (
            subst (HasSize shape body.class) (sym as_many) held.is.shaped.0,
            fit_set shape body.class 0 set.field set.field body.values set.value same held.is.shaped.1 kind_fits,
          );
          named = all_set (Names shape objects) body.values set.field set.value held.is.named fits.1;
        };
        class = held.class;
        size = as_many ∙ held.size;
      }

  chosen : (set : Set) (found : Option Body) (b : Bool) → eqb set.object o ≡ b → (set.object ≡ o → FitsIn shape objects (Some first) set) → IfSome found IsHeld → IfSome (cond b (body_with set found) found) IsHeld
  chosen set None true is fits held = tt
  chosen set None false is fits held = tt
  chosen set (Some body) true is fits held = one_set set body (fits (eqb-true set.object o is)) held
  chosen set (Some body) false is fits held = held

  all_sets : (sets : List Set) (found : Option Body) → AllByRecursion (λ (set : Set). set.object ≡ o → FitsIn shape objects (Some first) set) sets → IfSome found IsHeld → IfSome (body_by_sets o sets found) IsHeld
  all_sets [] found fit held = held
  all_sets (set ∷ sets) found fit held = all_sets sets (cond (eqb set.object o) (body_with set found) found) fit.1 (chosen set found (eqb set.object o) refl fit.0 held)

  held_is : (found : Option Body) → IfSome found IsHeld → IfSome found (IsBodyOf shape objects o)
  held_is None held = tt
  held_is (Some body) held = held.is

  -- the body that sets leave is the object's
  body_set : (sets : List Set) → IsBodyOf shape objects o first → AllByRecursion (λ (set : Set). set.object ≡ o → FitsIn shape objects (Some first) set) sets → IfSome (body_by_sets o sets (Some first)) (IsBodyOf shape objects o)
  body_set sets is fit = held_is (body_by_sets o sets (Some first)) (all_sets sets (Some first) fit (record { is = is; class = refl; size = refl }))

module _ (shape : Shape) (objects : List ℕ) (bodies : ℕ → Option Body) where
  -- the sets of an object fit what is found of it
  fit_found : (o : ℕ) (found : Option Body) → bodies o ≡ found → (sets : List Set) → AllByRecursion (λ (set : Set). FitsIn shape objects (bodies set.object) set) sets → AllByRecursion (λ (set : Set). set.object ≡ o → FitsIn shape objects found set) sets
  fit_found o found is [] fit = tt
  fit_found o found is (set ∷ sets) fit = (λ same. subst (λ f. FitsIn shape objects f set) (ap bodies same ∙ is) fit.0, fit_found o found is sets fit.1)

  object_set : (o : ℕ) (found : Option Body) → bodies o ≡ found → (sets : List Set) → IfSome found (IsBodyOf shape objects o) → AllByRecursion (λ (set : Set). FitsIn shape objects (bodies set.object) set) sets → IfSome (body_by_sets o sets found) (IsBodyOf shape objects o)
  object_set o None found sets is fit = none_held (IsBodyOf shape objects o) (body_by_sets o sets None) (some_sets o sets None)
  object_set o (Some body) found sets is fit = body_set shape objects o body sets is (fit_found o (Some body) found sets fit)

  -- the objects listed stay those listed
  pub sets_listed : (sets : List Set) → IsListed shape objects bodies → AllByRecursion (λ (set : Set). FitsIn shape objects (bodies set.object) set) sets → IsListed shape objects (with_sets sets bodies)
  sets_listed sets listed fit = record {
    once = listed.once;
    there = λ o. some_sets o sets (bodies o) ∙ listed.there o;
    each = λ o. object_set o (bodies o) refl sets (listed.each o) fit;
  }
