-- What holds of each item of a list.
use Rattle.std.proofs.Common.{ℕ, suc, ◌≡◌, ◌+◌, ◌<◌, ◌≤◌, sym, ◌∙◌, ap, subst, arith, length, get_or, take, drop, List, [], ◌∷◌, ◌++◌}
use Rattle.std.proofs.Math.Seq.{take-suc}
use Rattle.std.proofs.lemmas.List.{drop_more, take-append-drop, take_all}
use Rattle.std.specs.List.{AllByRecursion}

module _ {X : Type 0} (P : X → Type 0) where
  -- the items behind others
  pub each_behind : (xs ys : List X) → AllByRecursion P (xs ++ ys) → AllByRecursion P ys
  each_behind [] ys all = all
  each_behind (x ∷ xs) ys all = each_behind xs ys all.1

  -- one item more behind others
  pub each_pushed : (xs : List X) (x : X) → AllByRecursion P xs → P x → AllByRecursion P (xs ++ x ∷ [])
  each_pushed [] x all here = (here, tt)
  each_pushed (y ∷ xs) x all here = (all.0, each_pushed xs x all.1 here)

  -- one item more of a list
  pub each_next : (xs : List X) (none : X) (i : ℕ) → i < length xs → AllByRecursion P (take i xs) → P (get_or xs i none) → AllByRecursion P (take (i + 1) xs)
  each_next xs none i less all here =
      let more : suc i ≡ i + 1 = omega arith in
      subst (λ n. AllByRecursion P (take n xs)) more (subst (AllByRecursion P) (sym (take-suc xs i none less)) (each_pushed (take i xs) (get_or xs i none) all here))

  -- all items were looked at
  pub each_so_far : (xs : List X) (i : ℕ) → length xs ≤ i → AllByRecursion P (take i xs) → AllByRecursion P xs
  each_so_far xs i least all = subst (AllByRecursion P) (take_all i xs least) all

  -- the item at a place
  pub each_at : (xs : List X) (none : X) (i : ℕ) → i < length xs → AllByRecursion P xs → P (get_or xs i none)
  each_at xs none i less all = first (subst (AllByRecursion P) (sym (take-append-drop i xs) ∙ ap (λ left. take i xs ++ left) (drop_more xs i none less)) all)
    where
      first : AllByRecursion P (take i xs ++ get_or xs i none ∷ drop (i + 1) xs) → P (get_or xs i none)
      first all = (each_behind (take i xs) (get_or xs i none ∷ drop (i + 1) xs) all).0
