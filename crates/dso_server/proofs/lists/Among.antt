-- An object looked for among news that rise.
use Rattle.std.proofs.Common.{ℕ, zero, suc, ◌<◌, ◌≤◌, ◌≡◌, refl, sym, ◌∙◌, ap, arith, Bool, true, false, eqb, ◌||◌, Option, Some, None, List, [], ◌∷◌, length, get_or, slice_get}
use Rattle.std.proofs.lemmas.Bool.Decides.{nat_tests}
use Rattle.dso_base.specs.declared.record.Body.{Body}
use Rattle.dso_law.specs.Copies.{is_among}
use Rattle.dso_server.specs.Records.{IsPlaceOf, IsRising}

-- whether the body that is there is of the object
abbrev pub is_there : ℕ → Option Body → Bool
is_there o None = false
is_there o (Some body) = eqb body.object o

rest_rises : (body : Body) (news : List Body) → IsRising (body ∷ news) → IsRising news
rest_rises body [] rising = tt
rest_rises body (next ∷ news) rising = rising.1

-- none of those behind a body is of an object that isn't over that of the body
none_behind : (o : ℕ) (body : Body) (news : List Body) → IsRising (body ∷ news) → o ≤ body.object → is_among o news ≡ false
none_behind o body [] rising least = refl
none_behind o body (next ∷ news) rising least =
    let above : o < next.object = grind (arith, nat_tests, rising.0) in
    let apart : eqb next.object o ≡ false = grind (arith, nat_tests) in
    ap (λ b. b || is_among o news) apart ∙ none_behind o next news rising.1 (omega arith)

-- those behind a body are over it
over_first : (body : Body) (news : List Body) → IsRising (body ∷ news) → (j : ℕ) (d : Body) → j < length news → body.object < (get_or news j d).object
over_first body [] rising j d less = absurd (omega arith)
over_first body (next ∷ news) rising zero d less = grind (arith, nat_tests, rising.0)
over_first body (next ∷ news) rising (suc j) d less =
    let above : body.object < next.object = grind (arith, nat_tests, rising.0) in
    omega (arith, above, over_first next news rising.1 j d (omega arith))

-- news that rise don't fall
pub non_decreasing : (news : List Body) → IsRising news → (i j : ℕ) (d : Body) → i ≤ j → j < length news → (get_or news i d).object ≤ (get_or news j d).object
non_decreasing [] rising i j d le less = absurd (omega arith)
non_decreasing (body ∷ news) rising zero zero d le less = omega arith
non_decreasing (body ∷ news) rising zero (suc j) d le less = omega (arith, over_first body news rising j d (omega arith))
non_decreasing (body ∷ news) rising (suc i) zero d le less = absurd (omega arith)
non_decreasing (body ∷ news) rising (suc i) (suc j) d le less = non_decreasing news (rest_rises body news rising) i j d (omega arith) (omega arith)

-- whether the object is among them, by the body at the first place that isn't under it
pub among_at : (o : ℕ) (news : List Body) (i : ℕ) → IsRising news → IsPlaceOf o news i
    → is_there o (slice_get news i) ≡ is_among o news
among_at o [] i rising at = refl
among_at o (body ∷ news) zero rising at = sym (ap (λ b. eqb body.object o || b) (none_behind o body news rising (at.1 0 body (omega arith) (omega arith))) ∙ or_false (eqb body.object o))
  where
    or_false : (b : Bool) → (b || false) ≡ b
    or_false true = refl
    or_false false = refl
among_at o (body ∷ news) (suc i) rising at =
    let under = at.0 0 body (omega arith) (omega arith) in
    let apart : eqb body.object o ≡ false = grind (arith, nat_tests) in
    among_at o news i (rest_rises body news rising) (λ k d le less. at.0 (suc k) d (omega arith) (omega arith), λ k d le less. at.1 (suc k) d (omega arith) (omega arith)) ∙ sym (ap (λ b. b || is_among o news) apart)
