-- A slot of a cluster is of one of its clients.
use Rattle.std.specs.List.{list_any}
use Rattle.std.specs.List.{flat_map}
use Rattle.std.proofs.Common.{ℕ, zero, suc, ◌≤◌, ◌≡◌, ◌⊎◌, inl, inr, refl, sym, ◌∙◌, ap, Bool, true, false, cond, eqb, ◌||◌, List, [], ◌∷◌, ◌++◌, filter, map, arith}
use Rattle.std.proofs.lemmas.Bool.{eqb-true}
use Rattle.std.proofs.lemmas.List.Folds.{list_any-append}
use Rattle.dso_base.specs.declared.lock.ThreadId.{ThreadId}
use Rattle.dso_plain.proofs.keys.SameKeys.{number_self, same_number}
use Rattle.dso_lookup.proofs.Tests.{left_holds, right_holds}
use Rattle.dso_law.specs.Settings.{Settings, clients_of, threads_of, up_to}
use Rattle.dso_legal.specs.Slots.{Slot, Acts, TakesDown, Flushes, TakesUp, Loses, Breaks, client_slots, slots}
use Rattle.dso_world.specs.ChosenSlot.{is_slot}
use Rattle.dso_world.specs.Touched.{client_of}
use Rattle.dso_world.proofs.places.Found.{same_slots}

either_is : (a b : Bool) → (a || b) ≡ true → (a ≡ true) ⊎ (b ≡ true)
either_is true b is = inl refl
either_is false b is = inr is

-- a slot among those of two lists is in one of them
pub in_either : (slot : Slot) (xs ys : List Slot) → list_any (is_slot slot) (xs ++ ys) ≡ true → (list_any (is_slot slot) xs ≡ true) ⊎ (list_any (is_slot slot) ys ≡ true)
in_either slot xs ys is = either_is (list_any (is_slot slot) xs) (list_any (is_slot slot) ys) (sym (list_any-append (is_slot slot) xs ys) ∙ is)

module _ (slot : Slot) where
  among : (f : ℕ → List Slot) → ((c : ℕ) → list_any (is_slot slot) (f c) ≡ true → client_of slot ≡ c) → (cs : List ℕ) → list_any (is_slot slot) (flat_map f cs) ≡ true → list_any (eqb (client_of slot)) cs ≡ true
  among f own [] is = absurd (cc is)
  among f own (c ∷ cs) is = elim (in_either slot (f c) (flat_map f cs) is) [
    | inl here ↦ left_holds (eqb (client_of slot) c) (list_any (eqb (client_of slot)) cs) (ap (λ n. eqb n c) (own c here) ∙ number_self c)
    | inr later ↦ right_holds (eqb (client_of slot) c) (list_any (eqb (client_of slot)) cs) (among f own cs later)
  ]

  -- one slot that is found is the slot, so of its client
  is_of : (c : ℕ) (other : Slot) → client_of other ≡ c → is_slot slot other ≡ true → client_of slot ≡ c
  is_of c other its same = ap client_of (sym (same_slots slot other same)) ∙ its

  pub acts_own : (c : ℕ) (threads : List ThreadId) → list_any (is_slot slot) (map Acts (filter (λ t. eqb t.client c) threads)) ≡ true → client_of slot ≡ c
  acts_own c [] is = absurd (cc is)
  acts_own c (t ∷ threads) is = by (eqb t.client c) refl is (acts_own c threads)
    where
      by : (its : Bool) → eqb t.client c ≡ its → list_any (is_slot slot) (map Acts (cond its (t ∷ filter (λ t. eqb t.client c) threads) (filter (λ t. eqb t.client c) threads))) ≡ true
          → (list_any (is_slot slot) (map Acts (filter (λ t. eqb t.client c) threads)) ≡ true → client_of slot ≡ c) → client_of slot ≡ c
      by false other is later = later is
      by true same is later = elim (either_is (is_slot slot (Acts t)) (list_any (is_slot slot) (map Acts (filter (λ t. eqb t.client c) threads))) is) [
        | inl here ↦ is_of c (Acts t) (same_number t.client c same) here
        | inr rest ↦ later rest
      ]

  -- one of two slots of a client
  pair_own : (c : ℕ) (one two : Slot) → client_of one ≡ c → client_of two ≡ c → list_any (is_slot slot) (one ∷ two ∷ []) ≡ true → client_of slot ≡ c
  pair_own c one two first second is = elim (either_is (is_slot slot one) (is_slot slot two || false) is) [
    | inl here ↦ is_of c one first here
    | inr rest ↦ elim (either_is (is_slot slot two) false rest) [
      | inl here ↦ is_of c two second here
      | inr none ↦ absurd (cc none)
    ]
  ]

  takes_own : (cs : List ℕ) → list_any (is_slot slot) (map TakesUp cs) ≡ true → list_any (eqb (client_of slot)) cs ≡ true
  takes_own [] is = is
  takes_own (c ∷ cs) is = elim (either_is (is_slot slot (TakesUp c)) (list_any (is_slot slot) (map TakesUp cs)) is) [
    | inl here ↦ left_holds (eqb (client_of slot) c) (list_any (eqb (client_of slot)) cs) (ap (λ n. eqb n c) (is_of c (TakesUp c) refl here) ∙ number_self c)
    | inr rest ↦ right_holds (eqb (client_of slot) c) (list_any (eqb (client_of slot)) cs) (takes_own cs rest)
  ]

  -- The slot of a cluster is of one of its clients,
  pub of_a_client : (p : Settings) → list_any (is_slot slot) (slots p) ≡ true → list_any (eqb (client_of slot)) (clients_of p) ≡ true
  of_a_client p is = elim (in_either slot (flat_map (client_slots p) (clients_of p) ++ map TakesUp (clients_of p)) (flat_map (λ c. Loses c ∷ Breaks c ∷ []) (clients_of p)) is) [
    | inl first ↦ elim (in_either slot (flat_map (client_slots p) (clients_of p)) (map TakesUp (clients_of p)) first) [
      | inl own ↦ among (client_slots p) (λ c its. elim (in_either slot (map Acts (threads_of p c)) (TakesDown c ∷ Flushes c ∷ []) its) [
        | inl acts ↦ acts_own c p.threads acts
        | inr others ↦ pair_own c (TakesDown c) (Flushes c) refl refl others
      ]) (clients_of p) own
      | inr takes ↦ takes_own (clients_of p) takes
    ]
    | inr triggers ↦ among (λ c. Loses c ∷ Breaks c ∷ []) (λ c its. pair_own c (Loses c) (Breaks c) refl refl its) (clients_of p) triggers
  ]

-- A client of the cluster has a number from 1 to the number of clients.
pub numbered_so : (c last : ℕ) → list_any (eqb c) (up_to last) ≡ true → (1 ≤ c) × (c ≤ last)
numbered_so c zero is = absurd (cc is)
numbered_so c (suc last) is = elim (either_is (list_any (eqb c) (up_to last)) (eqb c (suc last) || false) (sym (list_any-append (eqb c) (up_to last) (suc last ∷ [])) ∙ is)) [
  | inl before ↦ let so = numbered_so c last before in (so.0, omega (arith, so.1))
  | inr here ↦ elim (either_is (eqb c (suc last)) false here) [
    | inl same ↦ let at : c ≡ suc last = eqb-true c (suc last) same in (omega (arith, at), omega (arith, at))
    | inr none ↦ absurd (cc none)
  ]
]
