-- Sets of numbers below 64, as the bits of a word.
use Rattle.std.specs.Int.{bit_at, bit_not}
use Rattle.std.specs.Option.{option_map_or}
use Rattle.std.proofs.Common.{ℕ, ◌+◌, ◌-◌, ◌*◌, ◌%◌, ◌^◌, ◌<◌, ◌≤◌, ◌≡◌, ◌≢◌, ◌⊎◌, inl, inr, refl, sym, ◌∙◌, ap, subst, bit_and, bit_or, w64, Option, Some, None, List, length, max, slice_get, arith, ⊎_elim}
use Rattle.std.proofs.lemmas.Bool.{cases_eq, cases_lt}
use Rattle.std.proofs.lemmas.Nat.{and_le_l}
use Rattle.std.proofs.lemmas.Nat.Bits.{bit_at_above, bit_at-lt, bit_at_clear_same, bit_at_ones, bit_at_or, bit_at_set_other, bit_at_set_same}
use Rattle.std.proofs.lemmas.Option.{slice_get_past}
use Rattle.dso_world.specs.AskingThreads.{same_word, word_at}

-- a number that stands in a set stands there with one more
pub kept_with : (n k i : ℕ) → k < 64 → bit_at n i ≡ 1 → bit_at (bit_or n (1 * 2 ^ k % 2 ^ 64)) i ≡ 1
kept_with n k i within was = ⊎_elim
    (λ same. subst (λ j. bit_at (bit_or n (1 * 2 ^ k % 2 ^ 64)) j ≡ 1) (sym same) (bit_at_set_same w64 n k within))
    (λ other. bit_at_set_other w64 n k within i other ∙ was)
    (cases_eq i k)

-- a set is less, as a number, without one that stands in it
pub fewer_without : (n k : ℕ) → k < 64 → bit_at n k ≡ 1 → bit_and n (bit_not w64 (1 * 2 ^ k % 2 ^ 64)) < n
fewer_without n k within was =
    let less : bit_and n (bit_not w64 (1 * 2 ^ k % 2 ^ 64)) ≤ n = and_le_l n (bit_not w64 (1 * 2 ^ k % 2 ^ 64)) in
    let gone : bit_at (bit_and n (bit_not w64 (1 * 2 ^ k % 2 ^ 64))) k ≡ 0 = bit_at_clear_same w64 n k within in
    ⊎_elim
    (λ same. let both : 0 ≡ 1 = sym gone ∙ ap (λ m. bit_at m k) same ∙ was in absurd (omega (arith, both)))
    (λ other. omega (arith, less, other))
    (cases_eq (bit_and n (bit_not w64 (1 * 2 ^ k % 2 ^ 64))) n)

-- what stands in one of two sets stands in both together
pub kept_left : (a b i : ℕ) → bit_at a i ≡ 1 → bit_at (bit_or a b) i ≡ 1
kept_left a b i was =
    let both = bit_at_or a b i in
    let few : bit_at b i < 2 = bit_at-lt b i in
    omega (arith, both, was, few)

pub kept_right : (a b i : ℕ) → bit_at b i ≡ 1 → bit_at (bit_or a b) i ≡ 1
kept_right a b i was =
    let both = bit_at_or a b i in
    let few : bit_at a i < 2 = bit_at-lt a i in
    omega (arith, both, was, few)

-- a bucket that isn't there has all threads
pub all_there : (words : List ℕ) (row i : ℕ) → length words ≤ row → i < 64 → bit_at (word_at words row) i ≡ 1
all_there words row i past within = ap (λ word. bit_at (option_map_or same_word word (2 ^ 64 - 1)) i) (slice_get_past words row past) ∙ bit_at_ones 64 i within

-- what stands in a set is below 64
pub below : (n i : ℕ) → n < 2 ^ 64 → bit_at n i ≡ 1 → i < 64
below n i fits is = ⊎_elim
    (λ less. less)
    (λ past. let none : bit_at n i ≡ 0 = bit_at_above n 64 i fits past in absurd (omega (arith, none, is)))
    (cases_lt i 64)
