-- The objects of a graph listed, each with a body that fits the shape and names what is listed.
use Rattle.std.proofs.Common.{ℕ, zero, suc, ◌≡◌, ◌≢◌, ◌<◌, ◌↔◌, ◌||◌, refl, sym, ◌∙◌, Bool, true, false, cond, eqb, is_some, List, [], ◌∷◌, ◌++◌, replicate, Option, Some, None}
use Rattle.std.specs.List.{AllByRecursion}
use Rattle.std.specs.Option.{IfSome}
use Rattle.std.proofs.lemmas.Bool.{eqb-true, or_left}
use Rattle.std.proofs.lemmas.List.{length-replicate}
use Rattle.std.proofs.lemmas.List.Folds.{list_any-append}
use Rattle.dso_base.specs.declared.record.Body.{Body}
use Rattle.dso_base.specs.declared.shape.Shape.{Shape}
use Rattle.dso_base.specs.declared.value.ClassId.TheVariants as class
use Rattle.dso_base.specs.declared.value.Value.{Value}
use Rattle.dso_base.specs.declared.value.Value.TheVariants as value
use Rattle.dso_law.specs.FitsDown.{FitFrom, FitsShape}
use Rattle.dso_law.specs.Store.{opening_roots}
use Rattle.dso_keep.specs.Records as records
use Rattle.dso_show.proofs.graph.Objects.{Once, is_listed}

-- the value names an object listed, as object 0 is not, or a text of the program
abbrev pub Names : Shape → List ℕ → Value → Type 0
Names shape objects (value.Ref o) = (o ≢ 0) × (is_listed o objects ≡ true)
Names shape objects (value.Text t) = t < shape.texts
Names shape objects v = Unit {0}

-- The body is the object's: of the roots' class exactly where that is object 0, of values that fit the shape and name
-- what is listed.
pub record IsBodyOf (shape : Shape) (objects : List ℕ) (o : ℕ) (body : Body) : Type 0 where
  pub object : body.object ≡ o
  pub class : (body.class ≡ class.Roots) ↔ (o ≡ 0)
  pub shaped : FitsShape shape body
  pub named : AllByRecursion (Names shape objects) body.values

-- The objects of the bodies are those listed, each once.
pub record IsListed (shape : Shape) (objects : List ℕ) (bodies : ℕ → Option Body) : Type 0 where
  pub once : Once objects
  pub there : (o : ℕ) → is_some (bodies o) ≡ is_listed o objects
  pub each : (o : ℕ) → IfSome (bodies o) (IsBodyOf shape objects o)

-- ---- more objects listed

module _ (shape : Shape) (objects more : List ℕ) where
  value_grown : (v : Value) → Names shape objects v → Names shape (objects ++ more) v
  value_grown (value.Ref o) names = (names.0, list_any-append (eqb o) objects more ∙ or_left (is_listed o objects) (is_listed o more) names.1)
  value_grown (value.Text t) names = names
  value_grown (value.Long n) names = tt
  value_grown (value.Bool b) names = tt
  value_grown value.Null names = tt

  values_grown : (vs : List Value) → AllByRecursion (Names shape objects) vs → AllByRecursion (Names shape (objects ++ more)) vs
  values_grown [] all = tt
  values_grown (v ∷ vs) all = (value_grown v all.0, values_grown vs all.1)

  -- a body is its object's still
  pub body_grown : (o : ℕ) (found : Option Body) → IfSome found (IsBodyOf shape objects o) → IfSome found (IsBodyOf shape (objects ++ more) o)
  body_grown o None is = tt
  body_grown o (Some body) is = record { object = is.object; class = is.class; shaped = is.shaped; named = values_grown body.values is.named }

-- ---- before any record

module _ (shape : Shape) where
  nulls_fit : (n f : ℕ) → FitFrom shape class.Roots f (replicate n value.Null)
  nulls_fit zero f = tt
  nulls_fit (suc n) f = (tt, nulls_fit n (suc f))

  nulls_name : (n : ℕ) → AllByRecursion (Names shape (0 ∷ [])) (replicate n value.Null)
  nulls_name zero = tt
  nulls_name (suc n) = (tt, nulls_name n)

  roots_alone : (o : ℕ) (b : Bool) → eqb o 0 ≡ b → IfSome (cond b (Some (opening_roots shape)) None) (IsBodyOf shape (0 ∷ []) o)
  roots_alone o true is = record {
    object = sym (eqb-true o 0 is);
    class = (λ roots. eqb-true o 0 is, λ zero. refl);
    shaped = (length-replicate shape.roots value.Null, nulls_fit shape.roots 0);
    named = nulls_name shape.roots;
  }
  roots_alone o false is = tt

  only_roots : (b : Bool) → is_some (cond b (Some (opening_roots shape)) None) ≡ (b || false)
  only_roots true = refl
  only_roots false = refl

  -- object 0 is listed alone
  pub opening_listed : IsListed shape (0 ∷ []) (records.opening shape).bodies
  opening_listed = record { once = (refl, tt); there = λ o. only_roots (eqb o 0); each = λ o. roots_alone o (eqb o 0) refl }
