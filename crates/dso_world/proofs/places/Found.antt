-- Where a slot stands among others, and whether it is open there.
use Rattle.std.specs.List.{list_any}
use Rattle.std.specs.Option.{option_and_then, option_map, option_map_or}
use Rattle.std.specs.Prelude.{position}
use Rattle.std.proofs.Common.{ℕ, suc, ◌+◌, ◌≡◌, refl, sym, ◌∙◌, ap, Bool, true, false, cond, ltb, not, ◌||◌, Option, Some, None, List, [], ◌∷◌, filter, length, map, slice_get, arith}
use Rattle.std.proofs.lemmas.Bool.{eqb-true, le-ltb, ltb-false, ltb-true}
use Rattle.std.specs.List.{position_or_len}
use Rattle.dso_plain.proofs.keys.SameKeys.{same_thread}
use Rattle.dso_legal.specs.Slots.{Slot, Acts, TakesDown, Flushes, TakesUp, Loses, Breaks}
use Rattle.dso_world.specs.ChosenSlot.{is_slot}
use Rattle.dso_world.specs.Flags.{is_set}
use Rattle.dso_world.proofs.links.Ends.{below}

-- two slots that are one
pub same_slots : (slot other : Slot) → is_slot slot other ≡ true → other ≡ slot
same_slots (Acts t) (Acts u) is = ap Acts (same_thread t u is)
same_slots (TakesDown c) (TakesDown d) is = ap TakesDown (sym (eqb-true c d is))
same_slots (Flushes c) (Flushes d) is = ap Flushes (sym (eqb-true c d is))
same_slots (TakesUp c) (TakesUp d) is = ap TakesUp (sym (eqb-true c d is))
same_slots (Loses c) (Loses d) is = ap Loses (sym (eqb-true c d is))
same_slots (Breaks c) (Breaks d) is = ap Breaks (sym (eqb-true c d is))
same_slots slot other is = absurd (cc is)

-- the place in a list with one more in front
pub place_behind : {X : Type 0} (test : X → Bool) (x : X) (xs : List X) → position test (x ∷ xs) ≡ cond (test x) (Some 0) (option_map (λ place. suc place) (position test xs))
place_behind test x xs = by (test x)
  where
    later : (b : Bool) → ltb (position_or_len test xs) (length xs) ≡ b
        → cond (ltb (1 + position_or_len test xs) (length (x ∷ xs))) (Some (1 + position_or_len test xs)) None ≡ option_map (λ place. suc place) (cond b (Some (position_or_len test xs)) None)
    later true is =
        let n = position_or_len test xs in
        let next : 1 + n ≡ suc n = omega arith in
        ap (λ b. cond b (Some (1 + n)) None) (below (1 + n) (length (x ∷ xs)) (omega (arith, ltb-true n (length xs) is))) ∙ ap (λ k. Some k) next
    later false is =
        let n = position_or_len test xs in
        ap (λ b. cond b (Some (1 + n)) None) (le-ltb (1 + n) (length (x ∷ xs)) (omega (arith, ltb-false n (length xs) is)))

    by : (b : Bool) → cond (ltb (cond (not b) (1 + position_or_len test xs) 0) (length (x ∷ xs))) (Some (cond (not b) (1 + position_or_len test xs) 0)) None
        ≡ cond b (Some 0) (option_map (λ place. suc place) (position test xs))
    by true = ap (λ b. cond b (Some 0) None) (below 0 (length (x ∷ xs)) (omega arith))
    by false = later (ltb (position_or_len test xs) (length xs)) refl

-- A place among things told of, is that among what is told of them.
pub place_of_told : {X Y : Type 0} (told : X → Y) (test : Y → Bool) (xs : List X) → position (λ x. test (told x)) xs ≡ position test (map told xs)
place_of_told told test [] = refl
place_of_told told test (x ∷ xs) = place_behind (λ x. test (told x)) x xs ∙ ap (λ place. cond (test (told x)) (Some 0) (option_map (λ place. suc place) place)) (place_of_told told test xs)
    ∙ sym (place_behind test (told x) (map told xs))

-- there is a place one further where there is one
one_further : (place : Option ℕ) (at : ℕ) → option_map (λ place. suc place) place ≡ Some at → (before : ℕ) × (place ≡ Some before) × (at ≡ suc before)
one_further None at is = absurd (cc is)
one_further (Some before) at is = (before, refl, cc is)

-- The slot stands at its place.
pub stands_there : (slot : Slot) (xs : List Slot) (place : ℕ) → position (is_slot slot) xs ≡ Some place → slice_get xs place ≡ Some slot
stands_there slot [] place is = absurd (cc is)
stands_there slot (x ∷ xs) place is = by (is_slot slot x) refl (sym (place_behind (is_slot slot) x xs) ∙ is) (stands_there slot xs)
  where
    by : (here : Bool) → is_slot slot x ≡ here → cond here (Some 0) (option_map (λ place. suc place) (position (is_slot slot) xs)) ≡ Some place
        → ((at : ℕ) → position (is_slot slot) xs ≡ Some at → slice_get xs at ≡ Some slot) → slice_get (x ∷ xs) place ≡ Some slot
    by true same is later =
        let first : 0 ≡ place = cc is in
        ap (slice_get (x ∷ xs)) (sym first) ∙ ap (λ s. Some s) (same_slots slot x same)
    by false other is later =
        let at = one_further (position (is_slot slot) xs) place is in
        ap (slice_get (x ∷ xs)) at.2 ∙ later at.0 at.1

module _ (f : Slot → Bool) (slot : Slot) where
  -- whether the flag at a place is set
  abbrev flag_at : List Bool → Option ℕ → Bool
  flag_at flags place = option_map_or is_set (option_and_then (slice_get flags) place) false

  flag_further : (first : Bool) (flags : List Bool) (place : Option ℕ) → flag_at (first ∷ flags) (option_map (λ place. suc place) place) ≡ flag_at flags place
  flag_further first flags None = refl
  flag_further first flags (Some place) = refl

  -- one that fails the test isn't among those that pass it
  fails : f slot ≡ false → (xs : List Slot) → list_any (is_slot slot) (filter f xs) ≡ false
  fails none [] = refl
  fails none (x ∷ xs) = by (f x) refl (is_slot slot x) refl (fails none xs)
    where
      by : (passes : Bool) → f x ≡ passes → (here : Bool) → is_slot slot x ≡ here → list_any (is_slot slot) (filter f xs) ≡ false → list_any (is_slot slot) (cond passes (x ∷ filter f xs) (filter f xs)) ≡ false
      by false fail here same later = later
      by true pass true same later = absurd (cc (sym pass ∙ (ap f (same_slots slot x same) ∙ none)))
      by true pass false other later = ap (λ b. b || list_any (is_slot slot) (filter f xs)) other ∙ later

  -- Found: a slot is among those that pass the test exactly where the flag at its place is set.
  pub found : (xs : List Slot) → list_any (is_slot slot) (filter f xs) ≡ option_map_or is_set (option_and_then (slice_get (map f xs)) (position (is_slot slot) xs)) false
  found [] = refl
  found (x ∷ xs) = by (is_slot slot x) refl (f x) refl (found xs) ∙ ap (flag_at (map f (x ∷ xs))) (sym (place_behind (is_slot slot) x xs))
    where
      by : (here : Bool) → is_slot slot x ≡ here → (passes : Bool) → f x ≡ passes → list_any (is_slot slot) (filter f xs) ≡ flag_at (map f xs) (position (is_slot slot) xs)
          → list_any (is_slot slot) (cond passes (x ∷ filter f xs) (filter f xs)) ≡ flag_at (f x ∷ map f xs) (cond here (Some 0) (option_map (λ place. suc place) (position (is_slot slot) xs)))
      by true same true pass later = ap (λ b. b || list_any (is_slot slot) (filter f xs)) same ∙ sym pass
      by true same false fail later = fails (ap f (sym (same_slots slot x same)) ∙ fail) xs ∙ sym fail
      by false other true pass later = ap (λ b. b || list_any (is_slot slot) (filter f xs)) other ∙ later ∙ sym (flag_further (f x) (map f xs) (position (is_slot slot) xs))
      by false other false fail later = later ∙ sym (flag_further (f x) (map f xs) (position (is_slot slot) xs))
