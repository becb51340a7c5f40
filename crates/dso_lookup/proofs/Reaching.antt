-- The test of what is found tells exactly what is found.
use Rattle.std.proofs.Common.{ℕ, ◌≡◌, ◌↔◌, ◌⊎◌, inl, inr, refl, sym, subst, Bool, true, false, eqb, ◌&&◌, ◌||◌, List, [], ◌∷◌}
use Rattle.std.proofs.lemmas.Bool.{or_cases, and_from, eq-eqb, eqb-true}
use Rattle.dso_base.specs.declared.value.Value.{Value}
use Rattle.dso_base.specs.declared.value.Value.TheVariants as value
use Rattle.dso_base.specs.Reach.{Found, start, onward, Reached, has_way, names_within, reach}
use Rattle.dso_lookup.specs.Reaching.{IsListed, ListsEach}
use Rattle.dso_lookup.proofs.Tests.{both, left_holds, right_holds}

module _ (edge : ℕ → ℕ → Bool) where
  -- there is a way over objects of the list
  Way : List ℕ → ℕ → ℕ → Type 0
  Way [] a b = edge a b ≡ true
  Way (first ∷ rest) a b = Way rest a b ⊎ (Way rest a first × Way rest first b)

  -- where the test tells one there is a way
  way_from_test : (objects : List ℕ) (a b : ℕ) → has_way edge objects a b ≡ true → Way objects a b
  unfolding Way
  way_from_test [] a b e = e
  way_from_test (first ∷ rest) a b e = elim (or_cases (has_way edge rest a b) (has_way edge rest a first && has_way edge rest first b) e) [
    | inl h ↦ inl (way_from_test rest a b h)
    | inr h ↦ let k = both (has_way edge rest a first) (has_way edge rest first b) h in inr (way_from_test rest a first k.0, way_from_test rest first b k.1)
  ]

  -- and the test tells each way
  test_from_way : (objects : List ℕ) (a b : ℕ) → Way objects a b → has_way edge objects a b ≡ true
  unfolding Way
  test_from_way [] a b w = w
  test_from_way (first ∷ rest) a b (inl w) = left_holds (has_way edge rest a b) (has_way edge rest a first && has_way edge rest first b) (test_from_way rest a b w)
  test_from_way (first ∷ rest) a b (inr w) = right_holds (has_way edge rest a b) (has_way edge rest a first && has_way edge rest first b) (and_from (has_way edge rest a first) (has_way edge rest first b) (test_from_way rest a first w.0) (test_from_way rest first b w.1))

  -- a step is a way
  one_step : (objects : List ℕ) (a b : ℕ) → edge a b ≡ true → Way objects a b
  unfolding Way
  one_step [] a b e = e
  one_step (first ∷ rest) a b e = inl (one_step rest a b e)

  -- to the first of the list a way need not go over it
  to_first : (rest : List ℕ) (first a : ℕ) → Way (first ∷ rest) a first → Way rest a first
  unfolding Way
  to_first rest first a (inl w) = w
  to_first rest first a (inr w) = w.0

  -- nor from it
  from_first : (rest : List ℕ) (first b : ℕ) → Way (first ∷ rest) first b → Way rest first b
  unfolding Way
  from_first rest first b (inl w) = w
  from_first rest first b (inr w) = w.1

  -- two ways that meet at an object of the list are one
  joined : (objects : List ℕ) (a p b : ℕ) → IsListed p objects → Way objects a p → Way objects p b → Way objects a b
  unfolding Way
  joined [] a p b at v w = absurd at
  joined (first ∷ rest) a p b (inl e) v w = inr (to_first rest first a (subst (λ x. Way (first ∷ rest) a x) e v), from_first rest first b (subst (λ x. Way (first ∷ rest) x b) e w))
  joined (first ∷ rest) a p b (inr at) (inl v) (inl w) = inl (joined rest a p b at v w)
  joined (first ∷ rest) a p b (inr at) (inl v) (inr w) = inr (joined rest a p first at v w.0, w.1)
  joined (first ∷ rest) a p b (inr at) (inr v) (inl w) = inr (v.0, joined rest first p b at v.1 w)
  joined (first ∷ rest) a p b (inr at) (inr v) (inr w) = inr (v.0, w.1)

module _ (mine : ℕ → Bool) (names : ℕ → ℕ → Bool) where
  -- what a way leads to is found
  found_by_way : (objects : List ℕ) (x a b : ℕ) → Found mine names x a → Way (names_within mine names) objects a b → Found mine names x b
  unfolding Way
  found_by_way [] x a b f w =
      let h = both (mine a) (mine b && names a b) w in
      let k = both (mine b) (names a b) h.1 in
      onward b f k.1 k.0
  found_by_way (first ∷ rest) x a b f (inl w) = found_by_way rest x a b f w
  found_by_way (first ∷ rest) x a b f (inr w) = found_by_way rest x first b (found_by_way rest x a first f w.0) w.1

  -- what is found is private, and so is what it is found from
  found_private : (a b : ℕ) → Found mine names a b → mine b ≡ true
  found_private a b (start e) = e
  found_private a b (onward c f e m) = m

  -- and what it is found from
  from_private : (a b : ℕ) → Found mine names a b → mine a ≡ true
  from_private a b (start e) = e
  from_private a b (onward {b = x} c f e m) = from_private a x f

  -- what is found is where it began, or a way leads to it
  way_to_found : (objects : List ℕ) (a b : ℕ) → ListsEach mine objects → Found mine names a b → (b ≡ a) ⊎ Way (names_within mine names) objects a b
  way_to_found objects a b lists (start e) = inl refl
  way_to_found objects a b lists (onward {b = x} c f e m) = by (way_to_found objects a x lists f)
    where
      step : Way (names_within mine names) objects x c
      step = one_step (names_within mine names) objects x c (and_from (mine x) (mine c && names x c) (found_private a x f) (and_from (mine c) (names x c) m e))

      by : (x ≡ a) ⊎ Way (names_within mine names) objects a x → (c ≡ a) ⊎ Way (names_within mine names) objects a c
      by (inl d) = inr (subst (λ z. Way (names_within mine names) objects z c) d step)
      by (inr w) = inr (joined (names_within mine names) objects a x c (lists x (found_private a x f)) w step)

  -- the test tells what is found from an object
  found_from_test : (objects : List ℕ) (a o : ℕ) → reach mine names objects (value.Ref a) o ≡ true → Found mine names a o
  found_from_test objects a o e =
      let h = both (mine a) (mine o && (eqb o a || has_way (names_within mine names) objects a o)) e in
      let k = both (mine o) (eqb o a || has_way (names_within mine names) objects a o) h.1 in
      elim (or_cases (eqb o a) (has_way (names_within mine names) objects a o) k.1) [
        | inl d ↦ subst (λ x. Found mine names a x) (sym (eqb-true o a d)) (start h.0)
        | inr w ↦ found_by_way objects a a o (start h.0) (way_from_test (names_within mine names) objects a o w)
      ]

  -- and the test tells what is found
  test_from_found : (objects : List ℕ) (a o : ℕ) → ListsEach mine objects → Found mine names a o → reach mine names objects (value.Ref a) o ≡ true
  test_from_found objects a o lists f = and_from (mine a) (mine o && (eqb o a || has_way (names_within mine names) objects a o)) (from_private a o f) (and_from (mine o) (eqb o a || has_way (names_within mine names) objects a o) (found_private a o f) (elim (way_to_found objects a o lists f) [
    | inl e ↦ left_holds (eqb o a) (has_way (names_within mine names) objects a o) (eq-eqb o a e)
    | inr w ↦ right_holds (eqb o a) (has_way (names_within mine names) objects a o) (test_from_way (names_within mine names) objects a o w)
  ]))

  -- the test tells exactly what is found from a value
  pub reach_tells : (objects : List ℕ) (v : Value) (o : ℕ) → ListsEach mine objects → (reach mine names objects v o ≡ true) ↔ Reached mine names v o
  reach_tells objects (value.Ref a) o lists = (found_from_test objects a o, test_from_found objects a o lists)
  reach_tells objects value.Null o lists = ((λ e. absurd (cc e)), λ h. absurd h)
  reach_tells objects (value.Long n) o lists = ((λ e. absurd (cc e)), λ h. absurd h)
  reach_tells objects (value.Bool b) o lists = ((λ e. absurd (cc e)), λ h. absurd h)
  reach_tells objects (value.Text n) o lists = ((λ e. absurd (cc e)), λ h. absurd h)
