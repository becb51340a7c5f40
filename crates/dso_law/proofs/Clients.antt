-- What is made of each client in turn, and what a table makes that has those of whom something is made.
use Rattle.std.proofs.Common.{ℕ, zero, suc, ◌+◌, ◌<◌, ◌≤◌, ◌≡◌, refl, sym, ◌∙◌, ap, subst, arith, Bool, true, false, cond, eqb, ◌||◌, is_some, Option, Some, None, List, [], ◌∷◌, ◌++◌, map, flat_map}
use Rattle.std.proofs.lemmas.Bool.{eqb-true, eq-eqb}
use Rattle.std.specs.BTreeMap.{BTreeMap, get, is_at, IsOrdered}
use Rattle.std.specs.Cmp.{ranked}
use Rattle.std.specs.List.{AllByRecursion, list_any}
use Rattle.std.specs.List.Sorted.{IsStrictlySortedBy}
use Rattle.std.specs.Map.{lookup}
use Rattle.std.specs.Ordering.{nat_cmp, MatchOrdering}
use Rattle.std.specs.declared.cmp.Ordering.TheVariants.{Less}
use Rattle.dso_law.specs.Settings.{up_to}
use Rattle.dso_lookup.proofs.Tests.{number_at}

-- so many numbers, from one on
abbrev count_from : ℕ → ℕ → List ℕ
count_from a zero = []
count_from a (suc n) = a ∷ count_from (suc a) n

-- one number more stands at their end
count_more : (a n : ℕ) → count_from a (suc n) ≡ count_from a n ++ (a + n) ∷ []
count_more a zero =
    let e : a ≡ a + 0 = omega arith in
    ap (λ k. k ∷ []) e
count_more a (suc n) =
    let e : suc a + n ≡ a + suc n = omega arith in
    ap (λ xs. a ∷ xs) (count_more (suc a) n ∙ ap (λ k. count_from (suc a) n ++ k ∷ []) e)

-- the numbers of the clients
counted_up : (n : ℕ) → up_to n ≡ count_from 1 n
counted_up zero = refl
counted_up (suc n) =
    let e : suc n ≡ 1 + n = omega arith in
    ap (λ xs. xs ++ suc n ∷ []) (counted_up n) ∙ (ap (λ k. count_from 1 n ++ k ∷ []) e ∙ sym (count_more 1 n))

-- one of so many numbers is within their bounds
counted_within : (c a n : ℕ) → list_any (eqb c) (count_from a n) ≡ true → (a ≤ c) × (c < a + n)
counted_within c a zero e = absurd (cc e)
counted_within c a (suc n) e = by (eqb c a) refl (counted_within c (suc a) n) e
  where
    by : (b : Bool) → eqb c a ≡ b → (list_any (eqb c) (count_from (suc a) n) ≡ true → (suc a ≤ c) × (c < suc a + n)) → (b || list_any (eqb c) (count_from (suc a) n)) ≡ true → (a ≤ c) × (c < a + suc n)
    by true is onward e =
        let h = eqb-true c a is in
        ((omega arith), (omega arith))
    by false is onward e =
        let h = onward e in
        let low = h.0 in
        let high = h.1 in
        ((omega arith), (omega arith))

-- who is not within the bounds is no client
no_client : (c n : ℕ) → ((1 ≤ c) × (c < 1 + n) → ⊥) → list_any (eqb c) (up_to n) ≡ false
no_client c n out = by (list_any (eqb c) (up_to n)) refl
  where
    by : (b : Bool) → list_any (eqb c) (up_to n) ≡ b → b ≡ false
    by true is = absurd (out (counted_within c 1 n (ap (λ cs. list_any (eqb c) cs) (sym (counted_up n)) ∙ is)))
    by false is = refl

module _ {V : Type 0} where
  -- keys that are greater by their order are greater
  above : (o : ℕ) (es : List (ℕ × V)) → AllByRecursion (λ k. nat_cmp o k ≡ Less) (map (λ e. e.0) es) → AllByRecursion (λ e. o < e.0) es
  above o [] all = tt
  above o (e ∷ es) all = (subst (λ r. MatchOrdering r (o < e.0) (o ≡ e.0) (e.0 < o)) all.0 (ranked o e.0 (nat_cmp o e.0) refl), above o es all.1)

  -- a key that is found nowhere below the first one
  none_before : (o : ℕ) (es : List (ℕ × V)) → AllByRecursion (λ e. o < e.0) es → lookup (is_at (nat_cmp o)) es ≡ None
  none_before o [] all = refl
  none_before o (e ∷ es) all = by (is_at (nat_cmp o) e.0) (number_at o e.0) (none_before o es all.1)
    where
      by : (b : Bool) → b ≡ eqb e.0 o → lookup (is_at (nat_cmp o)) es ≡ None → cond b (Some e.1) (lookup (is_at (nat_cmp o)) es) ≡ None
      by true is onward =
          let h = eqb-true e.0 o (sym is) in
          let k = all.0 in
          absurd (omega arith)
      by false is onward = onward

  -- a table finds nothing more behind an entry that is passed
  passed : (o : ℕ) (e : ℕ × V) (es : List (ℕ × V)) → e.0 < o → lookup (is_at (nat_cmp o)) (e ∷ es) ≡ lookup (is_at (nat_cmp o)) es
  passed o e es less = by (is_at (nat_cmp o) e.0) (number_at o e.0)
    where
      by : (b : Bool) → b ≡ eqb e.0 o → cond b (Some e.1) (lookup (is_at (nat_cmp o)) es) ≡ lookup (is_at (nat_cmp o)) es
      by true is =
          let h = eqb-true e.0 o (sym is) in
          absurd (omega arith)
      by false is = refl

  -- entries with keys above a number have keys from the next one on
  behind : (o : ℕ) (es : List (ℕ × V)) → AllByRecursion (λ e. o < e.0) es → AllByRecursion (λ e. suc o ≤ e.0) es
  behind o [] all = tt
  behind o (e ∷ es) all =
      let l = all.0 in
      ((omega arith), behind o es all.1)

  -- a lesser number is below all that a greater one is below
  all_above : (a b : ℕ) (es : List (ℕ × V)) → a < b → AllByRecursion (λ e. b < e.0) es → AllByRecursion (λ e. a < e.0) es
  all_above a b [] less all = tt
  all_above a b (e ∷ es) less all =
      let h = all.0 in
      ((omega arith), all_above a b es less all.1)

  -- all numbers are from 0 on
  from_zero : (es : List (ℕ × V)) → AllByRecursion (λ e. 0 ≤ e.0) es
  from_zero [] = tt
  from_zero (e ∷ es) = ((omega arith), from_zero es)

  module _ {A : Type 0} (make : ℕ → Option V → List A) (nothing : (c : ℕ) → make c None ≡ []) where
    -- entries that make nothing
    none_made : (es : List (ℕ × V)) (f : ℕ → Option V) (a : ℕ) → IsStrictlySortedBy nat_cmp (map (λ e. e.0) es) → AllByRecursion (λ e. a ≤ e.0) es
        → ((d : ℕ) → a ≤ d → f d ≡ lookup (is_at (nat_cmp d)) es) → ((d : ℕ) → a ≤ d → make d (f d) ≡ []) → flat_map (λ e. make e.0 (Some e.1)) es ≡ []
    unfolding IsStrictlySortedBy
    none_made [] f a sorted all found beyond = refl
    none_made (e ∷ es) f a sorted all found beyond =
        let l = all.0 in
        let it : f e.0 ≡ Some e.1 = found e.0 all.0 ∙ rw (number_at e.0 e.0 ∙ eq-eqb e.0 e.0 refl) refl in
        let here : make e.0 (Some e.1) ≡ [] = ap (λ v. make e.0 v) (sym it) ∙ beyond e.0 all.0 in
        rw here (none_made es f (suc e.0) sorted.1 (behind e.0 es (above e.0 es sorted.0)) (λ d least. found d (omega arith) ∙ passed d e es (omega arith)) (λ d least. beyond d (omega arith)))

    -- what the entries of a table in order make is what each number in turn makes, by what the table finds there, where
    -- greater ones make nothing
    made_from : (es : List (ℕ × V)) (f : ℕ → Option V) (a n : ℕ) → IsStrictlySortedBy nat_cmp (map (λ e. e.0) es) → AllByRecursion (λ e. a ≤ e.0) es
        → ((d : ℕ) → a ≤ d → f d ≡ lookup (is_at (nat_cmp d)) es) → ((d : ℕ) → a + n ≤ d → make d (f d) ≡ []) → flat_map (λ e. make e.0 (Some e.1)) es ≡ flat_map (λ d. make d (f d)) (count_from a n)
    unfolding IsStrictlySortedBy
    made_from es f a zero sorted all found beyond = none_made es f a sorted all found (λ d least. beyond d (omega arith))
    made_from [] f a (suc n) sorted all found beyond =
        let here : make a (f a) ≡ [] = ap (λ v. make a v) (found a (omega arith)) ∙ nothing a in
        rw here (made_from [] f (suc a) n tt tt (λ d least. found d (omega arith)) (λ d least. beyond d (omega arith)))
    made_from (e ∷ es) f a (suc n) sorted all found beyond = by (eqb e.0 a) refl (made_from es f (suc a) n) (made_from (e ∷ es) f (suc a) n)
      where
        above_first : AllByRecursion (λ x. e.0 < x.0) es
        above_first = above e.0 es sorted.0

        further : (d : ℕ) → suc a + n ≤ d → make d (f d) ≡ []
        further d least = beyond d (omega arith)

        by : (b : Bool) → eqb e.0 a ≡ b
            → (IsStrictlySortedBy nat_cmp (map (λ x. x.0) es) → AllByRecursion (λ x. suc a ≤ x.0) es → ((d : ℕ) → suc a ≤ d → f d ≡ lookup (is_at (nat_cmp d)) es) → ((d : ℕ) → suc a + n ≤ d → make d (f d) ≡ []) → flat_map (λ x. make x.0 (Some x.1)) es ≡ flat_map (λ d. make d (f d)) (count_from (suc a) n))
            → (IsStrictlySortedBy nat_cmp (map (λ x. x.0) (e ∷ es)) → AllByRecursion (λ x. suc a ≤ x.0) (e ∷ es) → ((d : ℕ) → suc a ≤ d → f d ≡ lookup (is_at (nat_cmp d)) (e ∷ es)) → ((d : ℕ) → suc a + n ≤ d → make d (f d) ≡ []) → flat_map (λ x. make x.0 (Some x.1)) (e ∷ es) ≡ flat_map (λ d. make d (f d)) (count_from (suc a) n))
            → make e.0 (Some e.1) ++ flat_map (λ x. make x.0 (Some x.1)) es ≡ make a (f a) ++ flat_map (λ d. make d (f d)) (count_from (suc a) n)
        by true is later stays =
            let at : e.0 ≡ a = eqb-true e.0 a is in
            let it : f a ≡ Some e.1 = found a (omega arith) ∙ rw (number_at a e.0 ∙ is) refl in
            let rest = later sorted.1 (behind a es (subst (λ o. AllByRecursion (λ x. o < x.0) es) at above_first)) (λ d least. found d (omega arith) ∙ passed d e es (omega arith)) further in
            rw (at, it, rest) refl
        by false is later stays =
            let l = all.0 in
            let differs : (e.0 ≡ a) → ⊥ = λ same. absurd (cc (sym is ∙ eq-eqb e.0 a same)) in
            let less : a < e.0 = grind arith in
            let all_after : AllByRecursion (λ x. a < x.0) (e ∷ es) = (less, all_above a e.0 es less above_first) in
            let here : make a (f a) ≡ [] = ap (λ v. make a v) (found a (omega arith) ∙ none_before a (e ∷ es) all_after) ∙ nothing a in
            rw here (stays sorted (behind a (e ∷ es) all_after) (λ d least. found d (omega arith)) further)

    -- What the entries of a table make in their order is what each client in turn makes, by what the table has of it, where
    -- who is no client makes nothing.
    pub made_of_all : (m : BTreeMap ℕ V) (n : ℕ) → IsOrdered nat_cmp m → ((c : ℕ) → list_any (eqb c) (up_to n) ≡ false → make c (get nat_cmp m c) ≡ [])
        → flat_map (λ e. make e.0 (Some e.1)) m.entries ≡ flat_map (λ d. make d (get nat_cmp m d)) (up_to n)
    made_of_all m n sorted outside =
        let first : make 0 (get nat_cmp m 0) ≡ [] = outside 0 (no_client 0 n (λ w. absurd (omega (arith, w.0)))) in
        made_from m.entries (get nat_cmp m) 0 (suc n) sorted (from_zero m.entries) (λ d least. refl) (λ d least. outside d (no_client d n (λ w. absurd (omega (arith, w.1, least)))))
        ∙ (rw first refl ∙ ap (λ cs. flat_map (λ d. make d (get nat_cmp m d)) cs) (sym (counted_up n)))

    -- The same, where all that the table has are clients.
    pub made_of_each : (m : BTreeMap ℕ V) (n : ℕ) → IsOrdered nat_cmp m → ((c : ℕ) → is_some (get nat_cmp m c) ≡ true → list_any (eqb c) (up_to n) ≡ true)
        → flat_map (λ e. make e.0 (Some e.1)) m.entries ≡ flat_map (λ d. make d (get nat_cmp m d)) (up_to n)
    made_of_each m n sorted within = made_of_all m n sorted (λ c out. by c (get nat_cmp m c) (λ there. cc (sym out ∙ within c there)))
      where
        by : (c : ℕ) (v : Option V) → (is_some v ≡ true → false ≡ true) → make c v ≡ []
        by c None no_one = nothing c
        by c (Some v) no_one = absurd (cc (no_one refl))
