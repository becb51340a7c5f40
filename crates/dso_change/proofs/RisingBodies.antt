-- Bodies of different objects, and bodies by rising id.
use Rattle.std.proofs.Common.{ℕ, ◌<◌, ◌≡◌, ◌≢◌, refl, sym, ◌∙◌, ap, subst, arith, Bool, true, false, cond, eqb, ltb, is_some, Some, None, List, [], ◌∷◌, map, filter}
use Rattle.std.proofs.lemmas.Bool.{eqb-true, eq-eqb, ltb-true, ltb-false}
use Rattle.std.specs.BTreeMap.{is_at}
use Rattle.std.specs.Cmp.{ranked}
use Rattle.std.specs.List.{AllByRecursion}
use Rattle.std.specs.List.Sorted.{IsStrictlySortedBy}
use Rattle.std.specs.Map.{lookup}
use Rattle.std.specs.Ordering.{nat_cmp, MatchOrdering}
use Rattle.std.specs.declared.cmp.Ordering.TheVariants.{Less}
use Rattle.dso_base.specs.declared.record.Body.{Body}
use Rattle.dso_base.specs.declared.value.Value.{Value}
use Rattle.dso_base.specs.Block.{body_in, with_value, insert_body, insert_bodies}
use Rattle.dso_change.specs.Hands.{with_field, either, AreDifferent, AreRising}
use Rattle.dso_change.proofs.BodyLists.{nothing, value_found, moved_found, inserts_found}
use Rattle.dso_lookup.proofs.Tests.{number_at}

-- nothing is found in a list of bodies of greater objects
pub none_below : (o : ℕ) (bodies : List Body) → AllByRecursion (λ body. o < body.object) bodies → body_in o bodies ≡ None
none_below o [] all = refl
none_below o (body ∷ bodies) all = by (eqb body.object o) refl (none_below o bodies all.1)
  where
    by : (b : Bool) → eqb body.object o ≡ b → body_in o bodies ≡ None → cond b (Some body) (body_in o bodies) ≡ None
    by true e onward =
        let h = eqb-true body.object o e in
        let k = all.0 in
        absurd (omega arith)
    by false e onward = onward

-- what is found in it is of a greater object
found_above : (o q : ℕ) (bodies : List Body) (body : Body) → AllByRecursion (λ later. o < later.object) bodies → body_in q bodies ≡ Some body → o < q
found_above o q [] body all e = absurd (cc e)
found_above o q (first ∷ rest) body all e = by (eqb first.object q) refl (found_above o q rest body all.1) e
  where
    by : (b : Bool) → eqb first.object q ≡ b → (body_in q rest ≡ Some body → o < q) → cond b (Some first) (body_in q rest) ≡ Some body → o < q
    by true is onward e =
        let h = eqb-true first.object q is in
        let k = all.0 in
        omega arith
    by false is onward e = onward e

-- a lesser number is below all of them too
all_above : (a b : ℕ) (bodies : List Body) → a < b → AllByRecursion (λ body. b < body.object) bodies → AllByRecursion (λ body. a < body.object) bodies
all_above a b [] less all = tt
all_above a b (body ∷ bodies) less all =
    let k = all.0 in
    ((omega arith), all_above a b bodies less all.1)

-- one more body that is above
all_insert : (o : ℕ) (body : Body) (bodies : List Body) → o < body.object → AllByRecursion (λ later. o < later.object) bodies → AllByRecursion (λ later. o < later.object) (insert_body body bodies)
all_insert o body [] less all = (less, tt)
all_insert o body (first ∷ rest) less all = by (ltb body.object first.object) (all_insert o body rest less all.1)
  where
    by : (b : Bool) → AllByRecursion (λ later. o < later.object) (insert_body body rest) → AllByRecursion (λ later. o < later.object) (cond b (body ∷ first ∷ rest) (first ∷ insert_body body rest))
    by true onward = (less, all)
    by false onward = (all.0, onward)

-- a body of an object that had none stands in its place
pub rising_insert : (body : Body) (bodies : List Body) → body_in body.object bodies ≡ None → AreRising bodies → AreRising (insert_body body bodies)
rising_insert body [] none rising = (tt, tt)
rising_insert body (first ∷ rest) none rising = by (ltb body.object first.object) (eqb first.object body.object) refl refl none (rising_insert body rest)
  where
    by : (before same : Bool) → ltb body.object first.object ≡ before → eqb first.object body.object ≡ same → cond same (Some first) (body_in body.object rest) ≡ None
        → (body_in body.object rest ≡ None → AreRising rest → AreRising (insert_body body rest)) → AreRising (cond before (body ∷ first ∷ rest) (first ∷ insert_body body rest))
    by true same b s none onward =
        let less = ltb-true body.object first.object b in
        ((less, all_above body.object first.object rest less rising.0), rising)
    by false true b s none onward = absurd (cc none)
    by false false b s none onward =
        let most = ltb-false body.object first.object b in
        let differs : first.object ≢ body.object = λ e. absurd (cc (sym s ∙ eq-eqb first.object body.object e)) in
        (all_insert first.object body rest (omega arith) rising.0, onward none rising.1)

-- so do bodies of different objects that had none
pub rising_inserts : (bodies news : List Body) → AreDifferent bodies → ((o : ℕ) → is_some (body_in o bodies) ≡ true → body_in o news ≡ None) → AreRising news → AreRising (insert_bodies bodies news)
rising_inserts [] news differ apart rising = rising
rising_inserts (body ∷ bodies) news differ apart rising =
    let here : is_some (body_in body.object (body ∷ bodies)) ≡ true = rw (eq-eqb body.object body.object refl) refl in
    let none : body_in body.object (insert_bodies bodies news) ≡ None = inserts_found bodies news body.object differ.1 onward ∙ (ap (λ x. either x (body_in body.object news)) differ.0 ∙ apart body.object here) in
    rising_insert body (insert_bodies bodies news) none (rising_inserts bodies news differ.1 onward rising)
  where
    onward : (o : ℕ) → is_some (body_in o bodies) ≡ true → body_in o news ≡ None
    onward o there = apart o (by (eqb body.object o))
      where
        by : (b : Bool) → is_some (cond b (Some body) (body_in o bodies)) ≡ true
        by true = refl
        by false = there

-- a field is written, and the objects stay
pub different_value : (o f : ℕ) (v : Value) (bodies : List Body) → AreDifferent bodies → AreDifferent (with_value o f v bodies)
different_value o f v [] differ = tt
different_value o f v (body ∷ bodies) differ = (by (eqb body.object o), different_value o f v bodies differ.1)
  where
    none : body_in body.object (with_value o f v bodies) ≡ None
    none = value_found o f v bodies body.object ∙ rw differ.0 (nothing (eqb body.object o))

    by : (b : Bool) → body_in (cond b (with_field f v body) body).object (with_value o f v bodies) ≡ None
    by true = none
    by false = none

-- the same for bodies by rising id
pub rising_value : (o f : ℕ) (v : Value) (bodies : List Body) → AreRising bodies → AreRising (with_value o f v bodies)
rising_value o f v [] rising = tt
rising_value o f v (body ∷ bodies) rising = (by (eqb body.object o) (all body.object bodies rising.0), rising_value o f v bodies rising.1)
  where
    all : (n : ℕ) (bodies : List Body) → AllByRecursion (λ later. n < later.object) bodies → AllByRecursion (λ later. n < later.object) (with_value o f v bodies)
    all n [] every = tt
    all n (first ∷ rest) every = (by (eqb first.object o), all n rest every.1)
      where
        by : (b : Bool) → n < (cond b (with_field f v first) first).object
        by true = every.0
        by false = every.0

    by : (b : Bool) → AllByRecursion (λ later. body.object < later.object) (with_value o f v bodies) → AllByRecursion (λ later. (cond b (with_field f v body) body).object < later.object) (with_value o f v bodies)
    by true every = every
    by false every = every

-- some of different bodies differ
pub different_moved : (test : ℕ → Bool) (bodies : List Body) → AreDifferent bodies → AreDifferent (filter (λ body. test body.object) bodies)
different_moved test [] differ = tt
different_moved test (body ∷ bodies) differ = by (test body.object) refl (different_moved test bodies differ.1)
  where
    by : (t : Bool) → test body.object ≡ t → AreDifferent (filter (λ x. test x.object) bodies) → AreDifferent (cond t (body ∷ filter (λ x. test x.object) bodies) (filter (λ x. test x.object) bodies))
    by true e onward = (moved_found test bodies body.object ∙ rw (e, differ.0) refl, onward)
    by false e onward = onward

-- a number that is less, by its order
less_is : (a b : ℕ) → nat_cmp a b ≡ Less → a < b
less_is a b e = subst (λ r. MatchOrdering r (a < b) (a ≡ b) (b < a)) e (ranked a b (nat_cmp a b) refl)

-- nothing is found below the first key
none_before : (o : ℕ) (es : List (ℕ × Body)) → AllByRecursion (λ k. o < k) (map (λ e. e.0) es) → lookup (is_at (nat_cmp o)) es ≡ None
none_before o [] all = refl
none_before o (e ∷ es) all = by (is_at (nat_cmp o) e.0) (number_at o e.0) (none_before o es all.1)
  where
    by : (b : Bool) → b ≡ eqb e.0 o → lookup (is_at (nat_cmp o)) es ≡ None → cond b (Some e.1) (lookup (is_at (nat_cmp o)) es) ≡ None
    by true is onward =
        let h = eqb-true e.0 o (sym is) in
        let k = all.0 in
        absurd (omega arith)
    by false is onward = onward

-- keys that are greater by their order are greater
keys_above : (o : ℕ) (ks : List ℕ) → AllByRecursion (λ k. nat_cmp o k ≡ Less) ks → AllByRecursion (λ k. o < k) ks
keys_above o [] all = tt
keys_above o (k ∷ ks) all = (less_is o k all.0, keys_above o ks all.1)

-- keys that are above a greater one are above a lesser
keys_from : (a b : ℕ) (ks : List ℕ) → a < b → AllByRecursion (λ k. b < k) ks → AllByRecursion (λ k. a < k) ks
keys_from a b [] less all = tt
keys_from a b (k ∷ ks) less all =
    let h = all.0 in
    ((omega arith), keys_from a b ks less all.1)

-- a table in order that finds what is found in bodies by rising id has these bodies
pub same_bodies : (es : List (ℕ × Body)) (bodies : List Body) → IsStrictlySortedBy nat_cmp (map (λ e. e.0) es) → AreRising bodies → ((o : ℕ) → lookup (is_at (nat_cmp o)) es ≡ body_in o bodies) → map (λ e. e.1) es ≡ bodies
unfolding IsStrictlySortedBy
same_bodies [] [] sorted rising same = refl
same_bodies [] (body ∷ bodies) sorted rising same =
    let there : body_in body.object (body ∷ bodies) ≡ Some body = rw (eq-eqb body.object body.object refl) refl in
    absurd (cc (same body.object ∙ there))
same_bodies (e ∷ es) [] sorted rising same = absurd (cc (sym (same e.0) ∙ first))
  where
    first : lookup (is_at (nat_cmp e.0)) (e ∷ es) ≡ Some e.1
    first = rw (number_at e.0 e.0 ∙ eq-eqb e.0 e.0 refl) refl
same_bodies (e ∷ es) (body ∷ bodies) sorted rising same = by (eqb body.object e.0) refl (sym at_first ∙ same e.0) (same_bodies es bodies sorted.1 rising.1)
  where
    above : AllByRecursion (λ k. e.0 < k) (map (λ x. x.0) es)
    above = keys_above e.0 (map (λ x. x.0) es) sorted.0

    at_first : lookup (is_at (nat_cmp e.0)) (e ∷ es) ≡ Some e.1
    at_first = rw (number_at e.0 e.0 ∙ eq-eqb e.0 e.0 refl) refl

    rest : body.object ≡ e.0 → (o : ℕ) → lookup (is_at (nat_cmp o)) es ≡ body_in o bodies
    rest at o = onward (eqb e.0 o) refl
      where
        onward : (b : Bool) → eqb e.0 o ≡ b → lookup (is_at (nat_cmp o)) es ≡ body_in o bodies
        onward true is =
            let key : e.0 ≡ o = eqb-true e.0 o is in
            none_before o es (subst (λ n. AllByRecursion (λ k. n < k) (map (λ x. x.0) es)) key above) ∙ sym (none_below o bodies (subst (λ n. AllByRecursion (λ later. n < later.object) bodies) (at ∙ key) rising.0))
        onward false is =
            let here : is_at (nat_cmp o) e.0 ≡ false = number_at o e.0 ∙ is in
            let there : eqb body.object o ≡ false = ap (λ n. eqb n o) at ∙ is in
            let both : cond (is_at (nat_cmp o) e.0) (Some e.1) (lookup (is_at (nat_cmp o)) es) ≡ cond (eqb body.object o) (Some body) (body_in o bodies) = same o in
            rw (here, there) at both

    by : (b : Bool) → eqb body.object e.0 ≡ b → Some e.1 ≡ cond b (Some body) (body_in e.0 bodies)
        → (((o : ℕ) → lookup (is_at (nat_cmp o)) es ≡ body_in o bodies) → map (λ x. x.1) es ≡ bodies) → e.1 ∷ map (λ x. x.1) es ≡ body ∷ bodies
    by true is found onward =
        let at : body.object ≡ e.0 = eqb-true body.object e.0 is in
        let it : e.1 ≡ body = cc found in
        λ i. it i ∷ onward (rest at) i
    by false is found onward =
        let less : body.object < e.0 = found_above body.object e.0 bodies e.1 rising.0 (sym found) in
        let here : is_at (nat_cmp body.object) e.0 ≡ false = number_at body.object e.0 ∙ differs less (eqb e.0 body.object) refl in
        let none : lookup (is_at (nat_cmp body.object)) (e ∷ es) ≡ None = rw here (none_before body.object es (keys_from body.object e.0 (map (λ x. x.0) es) less above)) in
        let there : body_in body.object (body ∷ bodies) ≡ Some body = rw (eq-eqb body.object body.object refl) refl in
        absurd (cc (sym none ∙ (same body.object ∙ there)))
      where
        differs : body.object < e.0 → (b : Bool) → eqb e.0 body.object ≡ b → b ≡ false
        differs less true is =
            let h = eqb-true e.0 body.object is in
            absurd (omega arith)
        differs less false is = refl
