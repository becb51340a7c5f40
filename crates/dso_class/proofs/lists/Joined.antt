-- Two lists in a row, place by place.
use Rattle.std.proofs.Common.{◌≡◌, ◌<◌, ◌+◌, ℕ, zero, suc, arith, refl, List, [], ◌∷◌, ◌++◌, length, slice_get, Some}

-- what stands behind a list
pub at_end : {A : Type 0} (xs : List A) (x : A) → slice_get (xs ++ x ∷ []) (length xs) ≡ Some x
at_end [] x = refl
at_end (y ∷ xs) x = at_end xs x

-- a place of the first list has the same in both
pub in_first : {A : Type 0} (xs ys : List A) (i : ℕ) → i < length xs → slice_get (xs ++ ys) i ≡ slice_get xs i
in_first [] ys i below = absurd (omega (arith, below))
in_first (x ∷ xs) ys zero below = refl
in_first (x ∷ xs) ys (suc i) below = in_first xs ys i (omega (arith, below))

-- where an item of both stands: in the first, or in the second, behind all of the first
pub data Stands {A : Type 0} (xs ys : List A) (i : ℕ) (x : A) : Type 0 where
  before : slice_get xs i ≡ Some x → Stands xs ys i x
  behind : (place : ℕ) → i ≡ length xs + place → slice_get ys place ≡ Some x → Stands xs ys i x

one_later : {A : Type 0} (y : A) (xs ys : List A) (i : ℕ) (x : A) → Stands xs ys i x → Stands (y ∷ xs) ys (suc i) x
one_later y xs ys i x (before is) = before is
one_later y xs ys i x (behind place at is) = behind place (omega (arith, at)) is

pub stands : {A : Type 0} (xs ys : List A) (i : ℕ) (x : A) → slice_get (xs ++ ys) i ≡ Some x → Stands xs ys i x
stands [] ys i x is = behind i (omega arith) is
stands (y ∷ xs) ys zero x is = before is
stands (y ∷ xs) ys (suc i) x is = one_later y xs ys i x (stands xs ys i x is)
