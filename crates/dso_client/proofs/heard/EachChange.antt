-- What holds of each item of a list, as a loop goes over it.
use Rattle.std.proofs.Common.{ℕ, zero, suc, ◌+◌, ◌<◌, ◌≤◌, arith, sym, subst, length, get_or, take, List, [], ◌∷◌, ◌++◌}
use Rattle.std.proofs.lemmas.List.{take_more, take_all}
use Rattle.std.specs.List.{AllByRecursion}

module _ {X : Type 0} (P : X → Type 0) where
  pushed : (xs : List X) (x : X) → AllByRecursion P xs → P x → AllByRecursion P (xs ++ x ∷ [])
  pushed [] x all here = (here, tt)
  pushed (y ∷ xs) x all here = (all.0, pushed xs x all.1 here)

  -- one item more
  pub each_next : (xs : List X) (none : X) (i : ℕ) → i < length xs → AllByRecursion P (take i xs) → P (get_or xs i none) → AllByRecursion P (take (i + 1) xs)
  each_next xs none i less all here = subst (AllByRecursion P) (sym (take_more xs i none less)) (pushed (take i xs) (get_or xs i none) all here)

  -- all items were looked at
  pub each_so_far : (xs : List X) (i : ℕ) → length xs ≤ i → AllByRecursion P (take i xs) → AllByRecursion P xs
  each_so_far xs i least all = subst (AllByRecursion P) (take_all i xs least) all

  -- the item at a place
  pub each_at : (xs : List X) (none : X) (i : ℕ) → i < length xs → AllByRecursion P xs → P (get_or xs i none)
  each_at [] none i less all = absurd (omega (arith, less))
  each_at (x ∷ xs) none zero less all = all.0
  each_at (x ∷ xs) none (suc i) less all = each_at xs none i (omega (arith, less)) all.1
