-- Loops over sets and lists: what was moved and listed so far.
use Rattle.std.proofs.Common.{ℕ, ◌+◌, ◌<◌, ◌≡◌, refl, sym, ◌∙◌, ap, arith, Bool, true, false, cond, eqb, ◌||◌, length, get_or, Option, Some, None, List, [], ◌∷◌, drop, zero, suc, take, filter, ◌++◌, OnOk, Result, Ok, Err}
use Rattle.std.proofs.Math.Path.{fun_ext}
use Rattle.std.proofs.Math.Seq.{drop-cons}
use Rattle.std.proofs.lemmas.Bool.{eqb-true}
use Rattle.std.specs.BTreeMap.{is_at}
use Rattle.std.specs.BTreeSet.{BTreeSet, contains, Updates}
use Rattle.std.specs.Cmp.{unsigned_tied}
use Rattle.std.specs.List.{list_any}
use Rattle.std.specs.Ordering.{nat_cmp}
use Rattle.dso_base.specs.declared.record.Body.{Body}
use Rattle.dso_base.specs.Block.{body_in}
use Rattle.dso_change.specs.Hands.{either, kept, joined}
use Rattle.dso_lookup.specs.Maps.{writes, or_old, written}
use Rattle.dso_lookup.specs.Search.{is_listed}
use Rattle.dso_lookup.proofs.Tests.{number_at}

-- two facts of an answer that isn't an error, put together
pub on_both : {T E A B C : Type 0} (r : Result T E) → (A → B → C) → OnOk r A → OnOk r B → OnOk r C
on_both (Ok x) both a b = both a b
on_both (Err e) both a b = tt

-- one object is taken out of those that are left, and moved
pub one_moved : (left left' : BTreeSet ℕ) (k : ℕ) (privates news privates' news' : ℕ → Option Body) → contains nat_cmp left k ≡ true → Updates nat_cmp left left' k false → privates' ≡ written (writes (is_at (nat_cmp k)) (λ _. None)) privates → news' ≡ written (writes (is_at (nat_cmp k)) (λ _. either (privates k) (news k))) news → (kept (contains nat_cmp left') privates' ≡ kept (contains nat_cmp left) privates) × (joined (contains nat_cmp left') privates' news' ≡ joined (contains nat_cmp left) privates news)
one_moved left left' k privates news privates' news' there taken gone put = (fun_ext (λ q. keeps q (is_at (nat_cmp k) q) refl), fun_ext (λ q. joins q (is_at (nat_cmp k) q) refl))
  where
    at : (q : ℕ) → is_at (nat_cmp k) q ≡ true → q ≡ k
    at q e = eqb-true q k (sym (number_at k q) ∙ e)

    keeps : (q : ℕ) (b : Bool) → is_at (nat_cmp k) q ≡ b → cond (contains nat_cmp left' q) None (privates' q) ≡ cond (contains nat_cmp left q) None (privates q)
    keeps q true e =
        let out : contains nat_cmp left' q ≡ false = taken.0 q ∙ rw e refl in
        let was : contains nat_cmp left q ≡ true = ap (λ n. contains nat_cmp left n) (at q e) ∙ there in
        let now : privates' q ≡ None = ap (λ f. f q) gone ∙ rw e refl in
        rw (out, was, now) refl
    keeps q false e =
        let same : contains nat_cmp left' q ≡ contains nat_cmp left q = taken.0 q ∙ rw e refl in
        let now : privates' q ≡ privates q = ap (λ f. f q) gone ∙ rw e refl in
        rw (same, now) refl

    joins : (q : ℕ) (b : Bool) → is_at (nat_cmp k) q ≡ b → cond (contains nat_cmp left' q) (either (privates' q) (news' q)) (news' q) ≡ cond (contains nat_cmp left q) (either (privates q) (news q)) (news q)
    joins q true e =
        let out : contains nat_cmp left' q ≡ false = taken.0 q ∙ rw e refl in
        let was : contains nat_cmp left q ≡ true = ap (λ n. contains nat_cmp left n) (at q e) ∙ there in
        let now : news' q ≡ either (privates k) (news k) = ap (λ f. f q) put ∙ rw e refl in
        rw (out, was, now) (ap (λ n. either (privates n) (news n)) (sym (at q e)))
    joins q false e =
        let same : contains nat_cmp left' q ≡ contains nat_cmp left q = taken.0 q ∙ rw e refl in
        let now : privates' q ≡ privates q = ap (λ f. f q) gone ∙ rw e refl in
        let new : news' q ≡ news q = ap (λ f. f q) put ∙ rw e refl in
        rw (same, now, new) refl

-- nothing is left
pub none_moved : (left : BTreeSet ℕ) (privates news : ℕ → Option Body) → (0 < length left.keys → ⊥) → (kept (contains nat_cmp left) privates ≡ privates) × (joined (contains nat_cmp left) privates news ≡ news)
none_moved left privates news none = by left.keys none
  where
    by : (ks : List ℕ) → (0 < length ks → ⊥) → (kept (λ q. list_any (is_at (nat_cmp q)) ks) privates ≡ privates) × (joined (λ q. list_any (is_at (nat_cmp q)) ks) privates news ≡ news)
    by [] h = (refl, refl)
    by (k ∷ ks) h = absurd (h (omega arith))

-- one more object of a list, from its end
pub one_listed : (set set' : BTreeSet ℕ) (objects : List ℕ) (at d : ℕ) → at < length objects → Updates nat_cmp set set' (get_or objects at d) true → ((o : ℕ) → contains nat_cmp set o ≡ is_listed o (drop (suc at) objects)) → (o : ℕ) → contains nat_cmp set' o ≡ is_listed o (drop at objects)
one_listed set set' objects at d within adds before o = adds.0 o ∙ (ap (λ b. cond b true (contains nat_cmp set o)) (unsigned_tied (get_or objects at d) o) ∙ (by (eqb (get_or objects at d) o) ∙ ap (λ xs. is_listed o xs) (sym (drop-cons objects at d within))))
  where
    by : (b : Bool) → cond b true (contains nat_cmp set o) ≡ (b || is_listed o (drop (suc at) objects))
    by true = refl
    by false = before o

-- one more body of a list, from its end
pub one_found : (table table' : ℕ → Option Body) (bodies : List Body) (at : ℕ) (d body : Body) → at < length bodies → body ≡ get_or bodies at d → table' ≡ written (writes (is_at (nat_cmp body.object)) (λ _. Some body)) table → table ≡ (λ o. body_in o (drop (suc at) bodies)) → table' ≡ (λ o. body_in o (drop at bodies))
one_found table table' bodies at d body within is puts before = puts ∙ (ap (λ f. written (writes (is_at (nat_cmp body.object)) (λ _. Some body)) f) before ∙ fun_ext (λ o. ap (λ b. or_old (cond b (Some (Some body)) None) (body_in o (drop (suc at) bodies))) (unsigned_tied body.object o) ∙ (by o (eqb body.object o) ∙ (ap (λ x. body_in o (x ∷ drop (suc at) bodies)) is ∙ ap (λ xs. body_in o xs) (sym (drop-cons bodies at d within))))))
  where
    by : (o : ℕ) (b : Bool) → or_old (cond b (Some (Some body)) None) (body_in o (drop (suc at) bodies)) ≡ cond b (Some body) (body_in o (drop (suc at) bodies))
    by o true = refl
    by o false = refl

-- one more item of those that pass
pub kept_next : {A : Type 0} (p : A → Bool) (xs : List A) (i : ℕ) (d : A) (old new : List A) → i < length xs → old ≡ filter p (take i xs) → new ≡ old ++ filter p (get_or xs i d ∷ []) → new ≡ filter p (take (i + 1) xs)
kept_next {A} p xs i d old new within was adds =
    let more : suc i ≡ i + 1 = omega arith in
    adds ∙ (ap (λ ys. ys ++ filter p (get_or xs i d ∷ [])) was ∙ (sym (next xs i within) ∙ ap (λ n. filter p (take n xs)) more))
  where
    step : (b : Bool) (y : A) (ys zs : List A) → cond b (y ∷ (ys ++ zs)) (ys ++ zs) ≡ cond b (y ∷ ys) ys ++ zs
    step true y ys zs = refl
    step false y ys zs = refl

    next : (xs : List A) (i : ℕ) → i < length xs → filter p (take (suc i) xs) ≡ filter p (take i xs) ++ filter p (get_or xs i d ∷ [])
    next [] i within = absurd (omega arith)
    next (y ∷ ys) zero within = refl
    next (y ∷ ys) (suc i) within = ap (λ zs. cond (p y) (y ∷ zs) zs) (next ys i (omega arith)) ∙ step (p y) y (filter p (take i ys)) (filter p (get_or ys i d ∷ []))
