-- The flags of a row are told anew one after the other.
use Rattle.std.proofs.Common.{ℕ, zero, suc, ◌+◌, ◌≡◌, sym, ◌∙◌, ap, Some, List, [], ◌∷◌, ◌++◌, drop, map, slice_get, slice_set, take, arith}

module _ {X Y : Type 0} (f g : X → Y) where
  -- the flags up to a place by one test, and behind it by another
  abbrev pub told_to : ℕ → List X → List Y
  told_to i xs = map f (take i xs) ++ map g (drop i xs)

  marked_at : (i : ℕ) (xs : List X) (x : X) → slice_get xs i ≡ Some x → slice_set (told_to i xs) i (f x) ≡ told_to (suc i) xs
  marked_at i [] x is = absurd (cc is)
  marked_at zero (y ∷ ys) x is = let same : y ≡ x = cc is in ap (λ z. f z ∷ map g ys) (sym same)
  marked_at (suc i) (y ∷ ys) x is = ap (λ zs. f y ∷ zs) (marked_at i ys x is)

  next_place : (i : ℕ) → suc i ≡ i + 1
  next_place i = omega arith

  -- Marked: the flag at a place is told anew.
  pub marked : (i : ℕ) (xs : List X) (flags : List Y) (x : X) → flags ≡ map f (take i xs) ++ map g (drop i xs) → slice_get xs i ≡ Some x
      → slice_set flags i (f x) ≡ map f (take (i + 1) xs) ++ map g (drop (i + 1) xs)
  marked i xs flags x are is = ap (λ list. slice_set list i (f x)) are ∙ marked_at i xs x is ∙ ap (λ k. told_to k xs) (next_place i)
