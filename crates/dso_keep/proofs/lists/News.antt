-- An object looked for among news that rise.
use Rattle.std.proofs.Common.{ℕ, zero, suc, ◌<◌, ◌≤◌, ◌≡◌, ◌≢◌, refl, ◌∙◌, ap, arith, Bool, true, false, cond, eqb, Option, Some, None, List, [], ◌∷◌, length, get_or, slice_get}
use Rattle.std.proofs.lemmas.Bool.Decides.{nat_tests}
use Rattle.dso_base.specs.declared.record.Body.{Body}
use Rattle.dso_law.specs.Store.{body_by_news}
use Rattle.dso_keep.specs.Fitting.{IsPlaceOf, IsRising}

rest_rises : (body : Body) (news : List Body) → IsRising (body ∷ news) → IsRising news
rest_rises body [] rising = tt
rest_rises body (next ∷ news) rising = rising.1

-- none of those behind a body is of an object that isn't over that of the body
none_behind : (o : ℕ) (body : Body) (news : List Body) (before : Option Body) → IsRising (body ∷ news) → o ≤ body.object → body_by_news o news before ≡ before
none_behind o body [] before rising least = refl
none_behind o body (next ∷ news) before rising least =
    let above : o < next.object = grind (arith, nat_tests, rising.0) in
    let apart : eqb next.object o ≡ false = grind (arith, nat_tests) in
    ap (λ (b : Bool). body_by_news o news (cond b (Some next) before)) apart ∙ none_behind o next news before rising.1 (omega arith)

-- those behind a body are over it
over_first : (body : Body) (news : List Body) → IsRising (body ∷ news) → (j : ℕ) (d : Body) → j < length news → body.object < (get_or news j d).object
over_first body [] rising j d less = absurd (omega arith)
over_first body (next ∷ news) rising zero d less = grind (arith, nat_tests, rising.0)
over_first body (next ∷ news) rising (suc j) d less =
    let above : body.object < next.object = grind (arith, nat_tests, rising.0) in
    omega (arith, above, over_first next news rising.1 j d (omega arith))

-- news that rise don't fall
pub non_decreasing : (news : List Body) → IsRising news → (i j : ℕ) (d : Body) → i ≤ j → j < length news → (get_or news i d).object ≤ (get_or news j d).object
non_decreasing [] rising i j d le less = absurd (omega arith)
non_decreasing (body ∷ news) rising zero zero d le less = omega arith
non_decreasing (body ∷ news) rising zero (suc j) d le less = omega (arith, over_first body news rising j d (omega arith))
non_decreasing (body ∷ news) rising (suc i) zero d le less = absurd (omega arith)
non_decreasing (body ∷ news) rising (suc i) (suc j) d le less = non_decreasing news (rest_rises body news rising) i j d (omega arith) (omega arith)

-- the object's body is that at the first place that isn't under it, if that is of the object
pub body_here : (o : ℕ) (news : List Body) (i : ℕ) (before : Option Body) (body : Body) → IsRising news → IsPlaceOf o news i
    → slice_get news i ≡ Some body → body.object ≡ o → body_by_news o news before ≡ Some body
body_here o [] i before body rising at is same = absurd (cc is)
body_here o (first ∷ news) zero before body rising at is same =
    let one : first ≡ body = cc is in
    let here : eqb first.object o ≡ true = grind (arith, nat_tests, ap (λ (b : Body). b.object) one, same) in
    ap (λ (b : Bool). body_by_news o news (cond b (Some first) before)) here ∙ none_behind o first news (Some first) rising (omega (arith, ap (λ (b : Body). b.object) one, same)) ∙ ap Some one
body_here o (first ∷ news) (suc i) before body rising at is same =
    let under = at.0 0 first (omega arith) (omega arith) in
    let apart : eqb first.object o ≡ false = grind (arith, nat_tests) in
    ap (λ (b : Bool). body_by_news o news (cond b (Some first) before)) apart
    ∙ body_here o news i before body (rest_rises first news rising) (λ k d le less. at.0 (suc k) d (omega arith) (omega arith), λ k d le less. at.1 (suc k) d (omega arith) (omega arith)) is same

-- and is none of theirs where that isn't, or there is none
abbrev pub IsOther : ℕ → Option Body → Type 0
IsOther o None = Unit {0}
IsOther o (Some body) = body.object ≢ o

pub body_elsewhere : (o : ℕ) (news : List Body) (i : ℕ) (before : Option Body) → IsRising news → IsPlaceOf o news i
    → IsOther o (slice_get news i) → body_by_news o news before ≡ before
body_elsewhere o [] i before rising at other = refl
body_elsewhere o (first ∷ news) zero before rising at other =
    let least : o ≤ first.object = at.1 0 first (omega arith) (omega arith) in
    let apart : eqb first.object o ≡ false = grind (arith, nat_tests, other) in
    ap (λ (b : Bool). body_by_news o news (cond b (Some first) before)) apart ∙ none_behind o first news before rising least
body_elsewhere o (first ∷ news) (suc i) before rising at other =
    let under = at.0 0 first (omega arith) (omega arith) in
    let apart : eqb first.object o ≡ false = grind (arith, nat_tests) in
    ap (λ (b : Bool). body_by_news o news (cond b (Some first) before)) apart
    ∙ body_elsewhere o news i before (rest_rises first news rising) (λ k d le less. at.0 (suc k) d (omega arith) (omega arith), λ k d le less. at.1 (suc k) d (omega arith) (omega arith)) other

-- what stands at a place
pub slice_at : (news : List Body) (i : ℕ) (none : Body) → i < length news → slice_get news i ≡ Some (get_or news i none)
slice_at [] i none less = absurd (omega (arith, less))
slice_at (body ∷ news) zero none less = refl
slice_at (body ∷ news) (suc i) none less = slice_at news i none (omega (arith, less))

pub slice_past : (news : List Body) (i : ℕ) → length news ≤ i → slice_get news i ≡ None
slice_past [] i past = refl
slice_past (body ∷ news) zero past = absurd (omega (arith, past))
slice_past (body ∷ news) (suc i) past = slice_past news i (omega (arith, past))
