-- A thing in a list of different things has one number, and one list rises with the same items or has the first ones of another.
use Rattle.std.proofs.Common.{ℕ, zero, suc, ◌≡◌, ◌≢◌, ◌<◌, arith, refl, sym, ap, ◌∙◌, subst, inl, inr, Some, List, [], ◌∷◌, ◌++◌, AllPairs, Contains, slice_get, ◌⊎◌}
use Rattle.std.proofs.lemmas.List.Elements.{All-contains, Contains-append_left, Contains-append_right, Contains-append_cases, Contains-push}
use Rattle.std.proofs.lemmas.Option.{same_Some}
use Rattle.dso_config_entries.specs.LastAndFirst.{AreFirsts, empty, again, fresh}
use Rattle.dso_class.specs.Numbers.{AreThePairs}
use Rattle.dso_class.proofs.lists.NumberedItems.{first_pairs, later_pairs, append_pairs, the_only}
use Rattle.dso_config_entries.proofs.lists.Places.{nowhere, stands_there}

-- a thing that stands in a list of different things has one number
pub one_number : {A : Type 0} (xs : List A) → AllPairs (λ x y. x ≢ y) xs → (x : A) (i j : ℕ) → slice_get xs i ≡ Some x → slice_get xs j ≡ Some x → i ≡ j
one_number [] differ x i j here there = absurd (cc here)
one_number (y ∷ xs) differ x zero zero here there = refl
one_number (y ∷ xs) differ x zero (suc j) here there =
    absurd (All-contains (λ z. y ≢ z) xs x (first_pairs (λ x y. x ≢ y) y xs differ) (stands_there xs x j there) (same_Some y x here))
one_number (y ∷ xs) differ x (suc i) zero here there =
    absurd (All-contains (λ z. y ≢ z) xs x (first_pairs (λ x y. x ≢ y) y xs differ) (stands_there xs x i here) (same_Some y x there))
one_number (y ∷ xs) differ x (suc i) (suc j) here there = ap suc (one_number xs (later_pairs (λ x y. x ≢ y) y xs differ) x i j here there)

-- an item is first or later
first_or_later : {A : Type 0} (y : A) (ys : List A) (x : A) → Contains (y ∷ ys) x → (y ≡ x) ⊎ Contains ys x
first_or_later y ys x there = elim (Contains-append_cases (y ∷ []) ys x there) [
  | inl here ↦ inl (the_only y x here)
  | inr behind ↦ inr behind
]

-- the first item is there
first_there : {A : Type 0} (x : A) (xs : List A) → Contains (x ∷ xs) x
first_there x xs = Contains-append_left (x ∷ []) xs x (Contains-push [] x)

-- a later item is there
later_there : {A : Type 0} (x : A) (xs : List A) (y : A) → Contains xs y → Contains (x ∷ xs) y
later_there x xs y there = Contains-append_right (x ∷ []) xs y there

module _ {A : Type 0} (R : A → A → Type 0) (one_way : (x y : A) → R x y → R y x → ⊥) where
  -- lists that rise and have the same items begin alike
  same_start : (x y : A) (xs ys : List A) → AllPairs R (x ∷ xs) → AllPairs R (y ∷ ys) → (y ≡ x) ⊎ Contains ys x → (x ≡ y) ⊎ Contains xs y → x ≡ y
  same_start x y xs ys rise climb (inl same) other = sym same
  same_start x y xs ys rise climb (inr there) (inl same) = same
  same_start x y xs ys rise climb (inr there) (inr back) =
      absurd (one_way x y (All-contains (R x) xs y (first_pairs R x xs rise) back) (All-contains (R y) ys x (first_pairs R y ys climb) there))

  -- an item behind the first one stands behind that of the other list
  stays_behind : (x y z : A) (xs ys : List A) → AllPairs R (x ∷ xs) → x ≡ y → Contains xs z → (y ≡ z) ⊎ Contains ys z → Contains ys z
  stays_behind x y z xs ys rise same there (inr behind) = behind
  stays_behind x y z xs ys rise same there (inl first) =
      let after : R x z = All-contains (R x) xs z (first_pairs R x xs rise) there in
      let itself : R x x = subst (R x) (sym (same ∙ first)) after in
      absurd (one_way x x itself itself)

  -- lists that rise and have the same items are one
  pub one_rising : (xs ys : List A) → AllPairs R xs → AllPairs R ys → ((z : A) → Contains xs z → Contains ys z) → ((z : A) → Contains ys z → Contains xs z) → xs ≡ ys
  one_rising [] [] rise climb to from = refl
  one_rising [] (y ∷ ys) rise climb to from = absurd (nowhere y (from y (first_there y ys)))
  one_rising (x ∷ xs) [] rise climb to from = absurd (nowhere x (to x (first_there x xs)))
  one_rising (x ∷ xs) (y ∷ ys) rise climb to from =
      let same = same_start x y xs ys rise climb (first_or_later y ys x (to x (first_there x xs))) (first_or_later x xs y (from y (first_there y ys))) in
      let rest =
      one_rising xs ys (later_pairs R x xs rise) (later_pairs R y ys climb)
      (λ z there. stays_behind x y z xs ys rise same there (first_or_later y ys z (to z (later_there x xs z there))))
      (λ z there. stays_behind y x z ys xs climb (sym same) there (first_or_later x xs z (from z (later_there y ys z there)))) in
      ap (λ z. z ∷ xs) same ∙ ap (λ zs. y ∷ zs) rest

-- the pairs of numbers with which P holds are one list
pub one_pairs : (P : ℕ → ℕ → Type 0) (xs ys : List (ℕ × ℕ)) → AreThePairs P xs → AreThePairs P ys → xs ≡ ys
one_pairs P xs ys are too =
    one_rising (λ pair other. pair.0 < other.0) (λ pair other less more. omega (arith, less, more)) xs ys are.rising too.rising
    (λ z there. (too.listed z.0 z.1).1 ((are.listed z.0 z.1).0 there)) (λ z there. (are.listed z.0 z.1).1 ((too.listed z.0 z.1).0 there))

-- a list with one more item isn't empty
no_push : {A : Type 0} (xs : List A) (x : A) → ◌≡◌ {A = List A} [] (xs ++ x ∷ []) → ⊥
no_push [] x same = cc same
no_push (y ∷ xs) x same = cc same

-- lists with one more item that are one were one, and so are the items
same_push : {A : Type 0} (xs ys : List A) (x y : A) → xs ++ x ∷ [] ≡ ys ++ y ∷ [] → (xs ≡ ys) × (x ≡ y)
same_push [] [] x y same = (refl, cc same)
same_push [] (z ∷ ys) x y same =
    let rest : [] ≡ ys ++ y ∷ [] = cc same in
    absurd (no_push ys y rest)
same_push (z ∷ xs) [] x y same =
    let rest : [] ≡ xs ++ x ∷ [] = cc same in
    absurd (no_push xs x rest)
same_push (z ∷ xs) (w ∷ ys) x y same =
    let first : z ≡ w = cc same in
    let rest : xs ++ x ∷ [] ≡ ys ++ y ∷ [] = cc same in
    let both = same_push xs ys x y rest in
    (ap (λ v. v ∷ xs) first ∙ ap (λ vs. w ∷ vs) both.0, both.1)

-- the first ones of a list are one list
pub one_firsts : {A : Type 0} {xs ys firsts others : List A} → AreFirsts xs firsts → AreFirsts ys others → xs ≡ ys → firsts ≡ others
one_firsts empty empty same = refl
one_firsts empty (again {xs = ys} {x = y} are has) same = absurd (no_push ys y same)
one_firsts empty (fresh {xs = ys} {x = y} are new) same = absurd (no_push ys y same)
one_firsts (again {xs = xs} {x = x} are has) empty same = absurd (no_push xs x (sym same))
one_firsts (again {xs = xs} {firsts = firsts} {x = x} are has) (again {xs = ys} {firsts = others} {x = y} too had) same = one_firsts are too (same_push xs ys x y same).0
one_firsts (again {xs = xs} {firsts = firsts} {x = x} are has) (fresh {xs = ys} {firsts = others} {x = y} too new) same =
    let both = same_push xs ys x y same in
    absurd (new (subst (Contains others) both.1 (subst (λ all. Contains all x) (one_firsts are too both.0) has)))
one_firsts (fresh {xs = xs} {x = x} are new) empty same = absurd (no_push xs x (sym same))
one_firsts (fresh {xs = xs} {firsts = firsts} {x = x} are new) (again {xs = ys} {firsts = others} {x = y} too had) same =
    let both = same_push xs ys x y same in
    absurd (new (subst (Contains firsts) (sym both.1) (subst (λ all. Contains all y) (sym (one_firsts are too both.0)) had)))
one_firsts (fresh {xs = xs} {firsts = firsts} {x = x} are new) (fresh {xs = ys} {firsts = others} {x = y} too old) same =
    let both = same_push xs ys x y same in
    ap (λ all. all ++ x ∷ []) (one_firsts are too both.0) ∙ ap (λ last. others ++ last ∷ []) both.1

-- the first ones differ
pub firsts_differ : {A : Type 0} {xs firsts : List A} → AreFirsts xs firsts → AllPairs (λ x y. x ≢ y) firsts
firsts_differ empty = λ i j d before within. absurd (omega arith)
firsts_differ (again are has) = firsts_differ are
firsts_differ (fresh {firsts = firsts} {x = x} are new) =
    append_pairs (λ y z. y ≢ z) firsts (x ∷ []) (firsts_differ are) (λ i j d before within. absurd (omega arith))
    (λ y z there behind same. new (subst (Contains firsts) (same ∙ sym (the_only x z behind)) there))
