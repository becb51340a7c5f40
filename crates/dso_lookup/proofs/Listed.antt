-- What is found in a map or a list of bodies stands in the list of its objects.
use Rattle.std.proofs.Common.{ℕ, ◌≡◌, refl, sym, ◌∙◌, ap, Bool, true, false, cond, eqb, is_some, Some, List, [], ◌∷◌, map}
use Rattle.std.specs.Map.{lookup}
use Rattle.std.specs.Ordering.{nat_cmp}
use Rattle.std.specs.BTreeMap.{BTreeMap, is_at, keys}
use Rattle.dso_base.specs.declared.record.Body.{Body}
use Rattle.dso_base.specs.Block.{body_in}
use Rattle.dso_lookup.specs.Maps.{look}
use Rattle.dso_lookup.specs.Search.{is_listed}
use Rattle.dso_lookup.proofs.Tests.{left_holds, right_holds, number_at}

-- the key of what stands in a map is one of its keys
pub key_listed : {V : Type 0} (m : BTreeMap ℕ V) (o : ℕ) → is_some (look nat_cmp m o) ≡ true → is_listed o (keys m) ≡ true
key_listed {V} m o there = among m.entries there
  where
    among : (es : List (ℕ × V)) → is_some (lookup (is_at (nat_cmp o)) es) ≡ true → is_listed o (map (λ e. e.0) es) ≡ true
    among [] there = absurd (cc there)
    among (e ∷ es) there = by (is_at (nat_cmp o) e.0) refl (among es) there
      where
        by : (b : Bool) → is_at (nat_cmp o) e.0 ≡ b → (is_some (lookup (is_at (nat_cmp o)) es) ≡ true → is_listed o (map (λ x. x.0) es) ≡ true)
            → is_some (cond b (Some e.1) (lookup (is_at (nat_cmp o)) es)) ≡ true → is_listed o (map (λ x. x.0) (e ∷ es)) ≡ true
        by true is rest there = left_holds (eqb e.0 o) (is_listed o (map (λ x. x.0) es)) (sym (number_at o e.0) ∙ is)
        by false is rest there = right_holds (eqb e.0 o) (is_listed o (map (λ x. x.0) es)) (rest there)

-- an object that has a body is one of the bodies' objects
pub body_listed : (bodies : List Body) (o : ℕ) → is_some (body_in o bodies) ≡ true → is_listed o (map (λ body. body.object) bodies) ≡ true
body_listed [] o there = absurd (cc there)
body_listed (body ∷ bodies) o there = by (eqb body.object o) refl (body_listed bodies o) there
  where
    by : (b : Bool) → eqb body.object o ≡ b → (is_some (body_in o bodies) ≡ true → is_listed o (map (λ x. x.object) bodies) ≡ true)
        → is_some (cond b (Some body) (body_in o bodies)) ≡ true → is_listed o (map (λ x. x.object) (body ∷ bodies)) ≡ true
    by true is rest there = left_holds (eqb body.object o) (is_listed o (map (λ x. x.object) bodies)) is
    by false is rest there = right_holds (eqb body.object o) (is_listed o (map (λ x. x.object) bodies)) (rest there)
