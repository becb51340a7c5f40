-- Lists of which the first ones are dropped or taken, one more of them.
use Rattle.std.proofs.Common.{ℕ, zero, suc, ◌≤◌, ◌≡◌, ap, Some, List, [], ◌∷◌, ◌++◌, length, arith}
use Rattle.std.specs.Prelude.{slice_get, take, drop}

-- one more item is dropped: it is the one of that number, and the last of those taken
pub record DropsOne {X : Type 0} (n : ℕ) (xs : List X) (x : X) (rest : List X) : Type 0 where
  pub later : drop (suc n) xs ≡ rest
  pub earlier : take (suc n) xs ≡ take n xs ++ x ∷ []
  pub there : slice_get xs n ≡ Some x
  pub more : suc n ≤ length xs

-- the first of a list
pub same_first : {X : Type 0} (x y : X) (xs ys : List X) → x ∷ xs ≡ y ∷ ys → x ≡ y
same_first x y xs ys same = cc same

-- and the rest
pub same_rest : {X : Type 0} (x y : X) (xs ys : List X) → x ∷ xs ≡ y ∷ ys → xs ≡ ys
same_rest x y xs ys same = cc same

one_at_least : (n : ℕ) → 1 ≤ suc n
one_at_least n = omega arith

one_longer : (m n : ℕ) → m ≤ n → suc m ≤ suc n
one_longer m n le = omega (arith, le)

-- where the rest begins with an item, it is dropped next
pub drops_one : {X : Type 0} (n : ℕ) (xs : List X) (x : X) (rest : List X) → drop n xs ≡ x ∷ rest → DropsOne n xs x rest
drops_one zero [] x rest is = absurd (cc is)
drops_one zero (y ∷ ys) x rest is = record {
  later = same_rest y x ys rest is;
  earlier = ap (λ z. z ∷ []) (same_first y x ys rest is);
  there = ap Some (same_first y x ys rest is);
  more = one_at_least (length ys);
}
drops_one (suc n) [] x rest is = absurd (cc is)
drops_one (suc n) (y ∷ ys) x rest is =
    let it = drops_one n ys x rest is in
    record { later = it.later; earlier = ap (λ zs. y ∷ zs) it.earlier; there = it.there; more = one_longer (suc n) (length ys) it.more }
