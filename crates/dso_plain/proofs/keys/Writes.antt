-- What is written into a function, seen through another function, and field by field.
use Rattle.std.proofs.Common.{ℕ, ◌+◌, ◌≡◌, ◌≢◌, ◌⊎◌, inl, inr, refl, sym, ◌∙◌, ap, Bool, true, false, cond, eqb, ltb, ◌&&◌, ◌||◌, Some, None, arith}
use Rattle.std.proofs.lemmas.Bool.Decides.{eqb_tells}
use Rattle.std.proofs.lemmas.Bool.{lt-ltb, le-ltb, ltb-true, ltb-false}
use Rattle.std.proofs.Math.Path.{fun_ext}
use Rattle.dso_plain.specs.KeyTests.{is_field}
use Rattle.dso_lookup.specs.Maps.{writes, or_old, written}
use Rattle.dso_plain.specs.HeapTables.{is_below}
use Rattle.dso_plain.proofs.keys.SameKeys.{same_field}

-- one value, seen through a function
through_one : {A B : Type 0} (g : A → B) (w x : A) (b : Bool) → g (or_old (cond b (Some w) None) x) ≡ or_old (cond b (Some (g w)) None) (g x)
through_one g w x true = refl
through_one g w x false = refl

-- a write seen through a function, at the keys that another test tells
pub through : {K A B : Type 0} (g : A → B) (p q : K → Bool) (w : A) (old new : K → A) → ((key : K) → p key ≡ q key) → new ≡ written (writes p (λ _. w)) old → (λ key. g (new key)) ≡ written (writes q (λ _. g w)) (λ key. g (old key))
through g p q w old new same e = fun_ext (λ key. ap (λ f. g (f key)) e ∙ (ap (λ b. g (or_old (cond b (Some w) None) (old key))) (same key) ∙ through_one g w (old key) (q key)))

-- the same as it is
pub renamed : {K A : Type 0} (p q : K → Bool) (w : A) (old new : K → A) → ((key : K) → p key ≡ q key) → new ≡ written (writes p (λ _. w)) old → new ≡ written (writes q (λ _. w)) old
renamed p q w old new same e = through (λ x. x) p q w old new same e

-- where a test tells one key alone, one value of a function is that function's
pub at_key : {K V : Type 0} (p : K → Bool) (k : K) (value old : K → V) → ((key : K) → p key ≡ true → key ≡ k) → written (writes p (λ _. value k)) old ≡ written (writes p value) old
at_key {K} p k value old same = fun_ext (λ key. by key (p key) refl)
  where
    by : (key : K) (b : Bool) → p key ≡ b → or_old (cond b (Some (value k)) None) (old key) ≡ or_old (cond b (Some (value key)) None) (old key)
    by key true e = ap value (sym (same key e))
    by key false e = refl

-- at one field one value of a function is that function's
pub at_field : {V : Type 0} (o f : ℕ) (value old : ℕ × ℕ → V) → written (writes (is_field o f) (λ _. value (o, f))) old ≡ written (writes (is_field o f) value) old
at_field o f value old = at_key (is_field o f) (o, f) value old (same_field o f)

-- below one more number are that number and those below it
pub below_next : (k n : ℕ) → ltb k (n + 1) ≡ (eqb k n || ltb k n)
below_next k n = by (eqb_tells k n)
  where
    more : (b : Bool) → ltb k n ≡ b → k ≢ n → ltb k (n + 1) ≡ b
    more true e ne =
        let h = ltb-true k n e in
        lt-ltb k (n + 1) (omega arith)
    more false e ne =
        let h = ltb-false k n e in
        le-ltb k (n + 1) (omega arith)

    by : ((eqb k n ≡ true) × (k ≡ n)) ⊎ ((eqb k n ≡ false) × (k ≢ n)) → ltb k (n + 1) ≡ (eqb k n || ltb k n)
    by (inl h) =
        let e = h.1 in
        rw h.0 (lt-ltb k (n + 1) (omega arith))
    by (inr h) = rw h.0 (more (ltb k n) refl h.1)

-- one field more
pub one_more : {V : Type 0} (o n : ℕ) (value start old new : ℕ × ℕ → V) → old ≡ written (writes (is_below o n) value) start → new ≡ written (writes (is_field o n) (λ _. value (o, n))) old → new ≡ written (writes (is_below o (n + 1)) value) start
one_more o n value start old new before e = e ∙ (at_field o n value old ∙ fun_ext (λ key. ap (λ x. or_old (cond (is_field o n key) (Some (value key)) None) x) (ap (λ f. f key) before) ∙ (by key (eqb key.0 o) (eqb key.1 n) (ltb key.1 n) ∙ ap (λ b. or_old (cond (eqb key.0 o && b) (Some (value key)) None) (start key)) (sym (below_next key.1 n)))))
  where
    by : (key : ℕ × ℕ) (a b c : Bool) → or_old (cond (a && b) (Some (value key)) None) (or_old (cond (a && c) (Some (value key)) None) (start key)) ≡ or_old (cond (a && (b || c)) (Some (value key)) None) (start key)
    by key true true c = refl
    by key true false c = refl
    by key false b c = refl
