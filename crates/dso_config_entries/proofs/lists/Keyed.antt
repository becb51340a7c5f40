-- Things in a row that are found by what they name: f gives the name, and the order R tells two things apart exactly where their names differ.
use Rattle.std.proofs.Common.{ℕ, ◌≡◌, ◌↔◌, refl, sym, ◌∙◌, ap, subst, Bool, true, false, Option, Some, None, List, [], ◌∷◌, ◌++◌, map, Contains, slice_get, IsTrue, if◌then◌else◌, IfSome, IsNone, IfOk, OnOk, Result, Ok, Err}
use Rattle.std.specs.declared.cmp.Ordering.{Ordering}
use Rattle.std.specs.declared.cmp.Ordering.TheVariants.{Equal}
use Rattle.std.specs.BTreeMap.{is_at}
use Rattle.std.proofs.lemmas.List.{map-append}
use Rattle.dso_config_entries.specs.LastAndFirst.{AreFirsts, again, fresh}
use Rattle.dso_config_entries.specs.FirstPlace.{place_of}
use Rattle.dso_config_entries.proofs.lists.Places as places

module _ {A B : Type 0} (R : A → A → Ordering) (f : A → B) (exact : (x y : A) → R x y ≡ Equal → f y ≡ f x) (tied : (x y : A) → f y ≡ f x → is_at (R x) y ≡ true) where
  -- the place of a thing is its number
  pub number : (things : List A) (thing : A) (n : ℕ) → place_of R things thing ≡ Some n → slice_get (map f things) n ≡ Some (f thing)
  number things thing n e = places.is_number R f exact thing things n e

  -- a thing without a place isn't there, and one with a place is
  pub absent : (things : List A) (thing : A) → place_of R things thing ≡ None → Contains (map f things) (f thing) → ⊥
  absent things thing e there = places.is_absent R f tied thing things e there

  pub there : (things : List A) (thing : A) (n : ℕ) → place_of R things thing ≡ Some n → Contains (map f things) (f thing)
  there things thing n e = places.stands_there (map f things) (f thing) n (number things thing n e)

  -- a thing that isn't there has no place
  pub placeless : (things : List A) (thing : A) → (Contains (map f things) (f thing) → ⊥) → place_of R things thing ≡ None
  placeless things thing fails = by (place_of R things thing) refl
    where
      by : (place : Option ℕ) → place_of R things thing ≡ place → place ≡ None
      by None e = refl
      by (Some n) e = absurd (fails (there things thing n e))

  -- the first of a list's names stay so with one more thing
  pub firsts : (all : List B) (old new : List A) (thing : A) (is_fresh : Bool) → AreFirsts all (map f old)
      → (IsTrue is_fresh ↔ (place_of R old thing ≡ None)) → new ≡ (if is_fresh then old ++ thing ∷ [] else old)
      → AreFirsts (all ++ f thing ∷ []) (map f new)
  firsts all old new thing true before tells is =
      subst (λ names. AreFirsts (all ++ f thing ∷ []) names) (sym (ap (map f) is ∙ map-append f old (thing ∷ []))) (fresh before (absent old thing (tells.0 refl)))
  firsts all old new thing false before tells is =
      subst (λ things. AreFirsts (all ++ f thing ∷ []) (map f things)) (sym is) (again before (found (place_of R old thing) refl))
    where
      found : (place : Option ℕ) → place_of R old thing ≡ place → Contains (map f old) (f thing)
      found None e = absurd (cc (tells.1 e))
      found (Some n) e = there old thing n e

  -- the first ones stay the first ones behind a call that may fail
  pub firsts_where : {E : Type 0} (result : Result Bool E) (all : List B) (old new : List A) (thing : A) → AreFirsts all (map f old)
      → IfOk result (λ is_fresh. IsTrue is_fresh ↔ (place_of R old thing ≡ None)) → IfOk result (λ is_fresh. new ≡ (if is_fresh then old ++ thing ∷ [] else old))
      → OnOk result (AreFirsts (all ++ f thing ∷ []) (map f new))
  firsts_where (Ok is_fresh) all old new thing before tells is = firsts all old new thing is_fresh before tells is
  firsts_where (Err refused) all old new thing before tells is = tt

  -- the number that is found, and that none is
  pub found_where : (place : Option ℕ) (things : List A) (thing : A) → place ≡ place_of R things thing → IfSome place (λ n. slice_get (map f things) n ≡ Some (f thing))
  found_where None things thing is = tt
  found_where (Some n) things thing is = number things thing n (sym is)

  pub none_where : (place : Option ℕ) (things : List A) (thing : A) → place ≡ place_of R things thing → IsNone place ↔ (Contains (map f things) (f thing) → ⊥)
  none_where None things thing is = (λ none. absent things thing (sym is), λ fails. refl)
  none_where (Some n) things thing is = (λ none. absurd (cc none), λ fails. absurd (fails (there things thing n (sym is))))

  pub fresh_where : {E : Type 0} (result : Result Bool E) (old : List A) (thing : A) → IfOk result (λ is_fresh. IsTrue is_fresh ↔ (place_of R old thing ≡ None))
      → IfOk result (λ is_fresh. IsTrue is_fresh ↔ (Contains (map f old) (f thing) → ⊥))
  fresh_where (Ok is_fresh) old thing tells = (λ is. absent old thing (tells.0 is), λ fails. tells.1 (placeless old thing fails))
  fresh_where (Err refused) old thing tells = tt
