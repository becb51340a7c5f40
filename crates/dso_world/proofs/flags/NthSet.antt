-- The n-th flag set of a row, and how many are set.
use Rattle.std.proofs.Common.{ℕ, zero, suc, ◌+◌, ◌≤◌, ◌≡◌, refl, ◌∙◌, ap, Bool, true, false, cond, Option, Some, None, List, [], ◌∷◌, ◌++◌, filter, length, map, option_and_then, option_map, slice_get, arith}
use Rattle.std.proofs.lemmas.List.Sums.{sum_by-cons}
use Rattle.dso_world.specs.Flags.{is_set, one_if, nth_set, set_count}

-- one more flag
pub one_more : (flag : Bool) (rest : List Bool) → set_count (flag ∷ rest) ≡ one_if flag + set_count rest
one_more flag rest = sum_by-cons (λ x. cond (is_set x) 1 0) flag rest

-- none is behind a place where none is
pub no_further : (o : Option ℕ) → option_map (λ i. suc i) o ≡ None → o ≡ None
no_further None is = refl
no_further (Some i) is = absurd (cc is)

-- there is no n-th one where no more than n are set
pub not_there : (n : ℕ) (flags : List Bool) → set_count flags ≤ n → nth_set n flags ≡ None
not_there n [] few = refl
not_there n (false ∷ rest) few = ap (option_map (λ i. suc i)) (not_there n rest (omega (arith, few, one_more false rest)))
not_there zero (true ∷ rest) few = absurd (omega (arith, few, one_more true rest))
not_there (suc n) (true ∷ rest) few = ap (option_map (λ i. suc i)) (not_there n rest (omega (arith, few, one_more true rest)))

-- and no more than n are set where there is no n-th one
pub too_few : (n : ℕ) (flags : List Bool) → nth_set n flags ≡ None → set_count flags ≤ n
too_few n [] none = omega arith
too_few n (false ∷ rest) none = omega (arith, one_more false rest, too_few n rest (no_further (nth_set n rest) none))
too_few zero (true ∷ rest) none = absurd (cc none)
too_few (suc n) (true ∷ rest) none = omega (arith, one_more true rest, too_few n rest (no_further (nth_set n rest) none))

module _ {X : Type 0} (test : X → Bool) where
  -- one place further in a list that begins with one more
  one_on : (x : X) (xs : List X) (o : Option ℕ) → option_and_then (slice_get xs) o ≡ option_and_then (slice_get (x ∷ xs)) (option_map (λ i. suc i) o)
  one_on x xs None = refl
  one_on x xs (Some i) = refl

  -- the n-th that passes a test stands at the place of the n-th flag set, where each flag tells whether its item passes
  pub nth_passing : (n : ℕ) (xs more : List X) → slice_get (filter test xs) n ≡ option_and_then (slice_get (xs ++ more)) (nth_set n (map test xs))
  nth_passing n [] more = refl
  nth_passing n (x ∷ xs) more = by (test x) n (λ k. nth_passing k xs more)
    where
      by : (passes : Bool) (n : ℕ) → ((k : ℕ) → slice_get (filter test xs) k ≡ option_and_then (slice_get (xs ++ more)) (nth_set k (map test xs))) → slice_get (cond passes (x ∷ filter test xs) (filter test xs)) n ≡ option_and_then (slice_get (x ∷ (xs ++ more))) (nth_set n (passes ∷ map test xs))
      by false n rest = rest n ∙ one_on x (xs ++ more) (nth_set n (map test xs))
      by true zero rest = refl
      by true (suc n) rest = rest n ∙ one_on x (xs ++ more) (nth_set n (map test xs))

  -- as many pass as are set
  pub passing_count : (xs : List X) → set_count (map test xs) ≡ length (filter test xs)
  passing_count [] = refl
  passing_count (x ∷ xs) = one_more (test x) (map test xs) ∙ by (test x) (passing_count xs)
    where
      by : (passes : Bool) → set_count (map test xs) ≡ length (filter test xs) → cond passes 1 0 + set_count (map test xs) ≡ length (cond passes (x ∷ filter test xs) (filter test xs))
      by true same = omega (arith, same)
      by false same = omega (arith, same)
