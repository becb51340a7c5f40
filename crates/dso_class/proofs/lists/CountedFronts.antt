-- How many of a list's front pass a test, as the front grows.
use Rattle.std.proofs.Common.{◌≡◌, ℕ, zero, suc, ◌≤◌, ◌<◌, ◌+◌, arith, refl, ap, ◌∙◌, Bool, true, false, cond, Some, List, [], ◌∷◌, take, count_by, slice_get}
use Rattle.std.proofs.lemmas.List.Sums.{sum_by-cons}
use Rattle.std.proofs.lemmas.Option.{none-some, same_Some}

-- what an item counts
abbrev pub counts : Bool → ℕ
counts b = cond b 1 0

module _ {A : Type 0} (p : A → Bool) where
  -- one more item before a list
  pub count_cons : (x : A) (xs : List A) → count_by p (x ∷ xs) ≡ counts (p x) + count_by p xs
  count_cons x xs = sum_by-cons (λ y. counts (p y)) x xs

  -- the front with one more item at its beginning
  front_cons : (x : A) (xs : List A) (k : ℕ) → count_by p (take (suc k) (x ∷ xs)) ≡ counts (p x) + count_by p (take k xs)
  front_cons x xs k = count_cons x (take k xs)

  -- one more item counts where it passes
  pub count_more : (xs : List A) (k : ℕ) (x : A) → slice_get xs k ≡ Some x → p x ≡ true → count_by p (take (suc k) xs) ≡ suc (count_by p (take k xs))
  count_more [] k x is passes = absurd (none-some x is)
  count_more (y ∷ ys) zero x is passes =
      let one : counts (p y) ≡ 1 = ap (λ z. counts (p z)) (same_Some y x is) ∙ ap counts passes in
      omega (arith, one, front_cons y ys zero)
  count_more (y ∷ ys) (suc k) x is passes = omega (arith, count_more ys k x is passes, front_cons y ys k, front_cons y ys (suc k))

  -- a longer front has as many or more
  pub count_rises : (xs : List A) (k n : ℕ) → k ≤ n → count_by p (take k xs) ≤ count_by p (take n xs)
  count_rises xs zero n below = omega arith
  count_rises xs (suc k) zero below = absurd (omega (arith, below))
  count_rises [] (suc k) (suc n) below = omega arith
  count_rises (x ∷ xs) (suc k) (suc n) below = omega (arith, count_rises xs k n (omega (arith, below)), front_cons x xs k, front_cons x xs n)

  -- no front has more than the list
  pub count_front : (xs : List A) (k : ℕ) → count_by p (take k xs) ≤ count_by p xs
  count_front xs zero = omega arith
  count_front [] (suc k) = omega arith
  count_front (x ∷ xs) (suc k) = omega (arith, count_front xs k, front_cons x xs k, count_cons x xs)

  -- an item that passes, before which so many do
  pub record IsCounted (xs : List A) (count : ℕ) : Type 0 where
    pub place : ℕ
    pub item : A
    pub stands : slice_get xs place ≡ Some item
    pub passes : p item ≡ true
    pub before : count_by p (take place xs) ≡ count

  -- one more item before it
  behind_other : (x : A) (xs : List A) (count : ℕ) → p x ≡ false → IsCounted xs count → IsCounted (x ∷ xs) count
  behind_other x xs count fails found =
      let nothing : counts (p x) ≡ 0 = ap counts fails in
      let here : count_by p (take found.place xs) ≡ count = found.before in
      record { place = suc found.place; item = found.item; stands = found.stands; passes = found.passes; before = omega (arith, nothing, here, front_cons x xs found.place) }

  -- one more item before it, which passes too
  behind_one : (x : A) (xs : List A) (count : ℕ) → p x ≡ true → IsCounted xs count → IsCounted (x ∷ xs) (suc count)
  behind_one x xs count passes found =
      let one : counts (p x) ≡ 1 = ap counts passes in
      let here : count_by p (take found.place xs) ≡ count = found.before in
      record { place = suc found.place; item = found.item; stands = found.stands; passes = found.passes; before = omega (arith, one, here, front_cons x xs found.place) }

  -- each lesser count is that before some item
  counted_behind : (x : A) (xs : List A) (k count : ℕ) (b : Bool) → p x ≡ b → count < counts b + count_by p (take k xs) → ((less : ℕ) → less < count_by p (take k xs) → IsCounted xs less) → IsCounted (x ∷ xs) count
  counted_behind x xs k count false is below later = behind_other x xs count is (later count (omega (arith, below)))
  counted_behind x xs k zero true is below later = record { place = zero; item = x; stands = refl; passes = is; before = refl }
  counted_behind x xs k (suc count) true is below later = behind_one x xs count is (later count (omega (arith, below)))

  -- each count below that of a front is the count before some item of it
  pub counted : (xs : List A) (k count : ℕ) → count < count_by p (take k xs) → IsCounted xs count
  counted xs zero count below = absurd (omega (arith, below))
  counted [] (suc k) count below = absurd (omega (arith, below))
  counted (x ∷ xs) (suc k) count below = counted_behind x xs k count (p x) refl (omega (arith, below, front_cons x xs k)) (λ less fewer. counted xs k less fewer)
