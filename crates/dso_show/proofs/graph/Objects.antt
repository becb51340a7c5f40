-- Objects listed: that each is listed once, and the objects of bodies that are new.
use Rattle.std.proofs.Common.{ℕ, zero, suc, ◌≡◌, ◌≢◌, ◌<◌, ◌≤◌, ◌||◌, refl, ◌∙◌, ap, arith, Bool, true, false, eqb, is_some, List, [], ◌∷◌, ◌++◌, length, get_or, Option, Some, None, cond}
use Rattle.std.specs.List.{AllByRecursion, AllPairs, list_any}
use Rattle.std.proofs.lemmas.Bool.{eq-eqb, eqb-false, eqb-true, ne_eqb, or_from, or_left, or_parts, or_right}
use Rattle.std.proofs.lemmas.Bool.Decides.{nat_tests}
use Rattle.std.proofs.lemmas.List.Folds.{list_any-append}
use Rattle.dso_base.specs.declared.record.Body.{Body}
use Rattle.dso_keep.specs.Fitting.{IsRising}
use Rattle.dso_law.specs.Store.{body_by_news}
use Rattle.dso_show.specs.Published.{objects_of}

-- whether the object is listed
abbrev pub is_listed : ℕ → List ℕ → Bool
is_listed o objects = list_any (eqb o) objects

-- no object is listed twice
abbrev pub Once : List ℕ → Type 0
Once [] = Unit {0}
Once (o ∷ objects) = (is_listed o objects ≡ false) × Once objects

-- two lists that have no object in common
pub once_both : (xs ys : List ℕ) → Once xs → Once ys → ((o : ℕ) → is_listed o xs ≡ true → is_listed o ys ≡ false) → Once (xs ++ ys)
once_both [] ys first second apart = second
once_both (x ∷ xs) ys first second apart = (
  list_any-append (eqb x) xs ys ∙ or_from (is_listed x xs) (is_listed x ys) first.0 (apart x (or_left (eqb x x) (is_listed x xs) (eq-eqb x x refl))),
  once_both xs ys first.1 second (λ o is. apart o (or_right (eqb o x) (is_listed o xs) is)),
)

-- ---- the objects of bodies

-- none of those behind a body is the one that isn't over its own
none_behind : (o : ℕ) (body : Body) (news : List Body) → IsRising (body ∷ news) → o ≤ body.object → is_listed o (objects_of news) ≡ false
none_behind o body [] rising least = refl
none_behind o body (next ∷ news) rising least =
    let above : o < next.object = grind (arith, nat_tests, rising.0) in
    or_from (eqb o next.object) (is_listed o (objects_of news)) (ne_eqb o next.object (λ same. absurd (omega (arith, above, same)))) (none_behind o next news rising.1 (omega (arith, above)))

rest_rises : (body : Body) (news : List Body) → IsRising (body ∷ news) → IsRising news
rest_rises body [] rising = tt
rest_rises body (next ∷ news) rising = rising.1

-- bodies that rise are of different objects
pub once_rising : (news : List Body) → IsRising news → Once (objects_of news)
once_rising [] rising = tt
once_rising (body ∷ news) rising = (none_behind body.object body news rising (omega arith), once_rising news (rest_rises body news rising))

-- an object that isn't listed is none of theirs
none_of : (o : ℕ) (bodies : List Body) → is_listed o (objects_of bodies) ≡ false → (i : ℕ) (d : Body) → i < length bodies → o ≢ (get_or bodies i d).object
none_of o [] none i d less same = absurd (omega (arith, less))
none_of o (body ∷ bodies) none zero d less same = eqb-false o body.object (or_parts (eqb o body.object) (is_listed o (objects_of bodies)) none).0 same
none_of o (body ∷ bodies) none (suc i) d less same = none_of o bodies (or_parts (eqb o body.object) (is_listed o (objects_of bodies)) none).1 i d (omega (arith, less)) same

-- so where their objects are listed once the bodies differ
pub differ : (bodies : List Body) → Once (objects_of bodies) → AllPairs (λ (body other : Body). body.object ≢ other.object) bodies
differ [] once i j d before less = absurd (omega (arith, less))
differ (body ∷ bodies) once i zero d before less = absurd (omega (arith, before))
differ (body ∷ bodies) once zero (suc j) d before less = none_of body.object bodies once.0 j d (omega (arith, less))
differ (body ∷ bodies) once (suc i) (suc j) d before less = differ bodies once.1 i j d (omega (arith, before)) (omega (arith, less))

-- ---- news among bodies

-- an object has a body once there are news where it had one, or is theirs
pub some_news : (o : ℕ) (news : List Body) (before : Option Body) → is_some (body_by_news o news before) ≡ (is_some before || is_listed o (objects_of news))
some_news o [] before = nothing (is_some before)
  where
    nothing : (b : Bool) → b ≡ (b || false)
    nothing true = refl
    nothing false = refl
some_news o (body ∷ news) before =
    some_news o news (cond (eqb body.object o) (Some body) before)
    ∙ ap (λ b. is_some (cond b (Some body) before) || is_listed o (objects_of news)) (either_way body.object o)
    ∙ by (eqb o body.object) before
  where
    either_way : (a b : ℕ) → eqb a b ≡ eqb b a
    either_way a b = grind (arith, nat_tests)

    by : (b : Bool) (before : Option Body) → (is_some (cond b (Some body) before) || is_listed o (objects_of news)) ≡ (is_some before || (b || is_listed o (objects_of news)))
    by true None = refl
    by true (Some old) = refl
    by false before = refl

-- what holds of what was there, and of each of the news that is of the object, holds of what is there
pub by_news : (P : Option Body → Type 0) (o : ℕ) (news : List Body) (before : Option Body) → P before → AllByRecursion (λ (body : Body). body.object ≡ o → P (Some body)) news → P (body_by_news o news before)
by_news P o [] before now all = now
by_news P o (body ∷ news) before now all = by_news P o news (cond (eqb body.object o) (Some body) before) (chosen (eqb body.object o) refl) all.1
  where
    chosen : (b : Bool) → eqb body.object o ≡ b → P (cond b (Some body) before)
    chosen true is = all.0 (eqb-true body.object o is)
    chosen false is = now
