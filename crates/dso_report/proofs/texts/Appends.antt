-- Texts that may not be there, one after the other.
use Rattle.std.proofs.Common.{◌≡◌, refl, ℕ, zero, suc, ◌<◌, ◌+◌, ◌++◌, Option, Some, None, List, [], ◌∷◌, length, take, get_or, inl, inr, sym, ap, ◌∙◌, subst, add-one, arith}
use Rattle.std.specs.Fmt.{◌++?◌}
use Rattle.std.proofs.Math.Seq.{take-suc}
use Rattle.std.proofs.lemmas.Bool.{cases_lt}
use Rattle.std.proofs.lemmas.List.{append-nil, append_assoc}
use Rattle.dso_report.specs.Texts.{each_below, each_of}

-- ---- one after the other

-- two texts and a third one are the one and the two others
pub appends_group : (a b c : Option (List ℕ)) → (a ++? b) ++? c ≡ a ++? (b ++? c)
appends_group None b c = refl
appends_group (Some x) None c = refl
appends_group (Some x) (Some y) None = refl
appends_group (Some x) (Some y) (Some z) = ap Some (append_assoc x y z)

-- nothing behind a text
pub append_nothing : (a : Option (List ℕ)) → a ++? Some [] ≡ a
append_nothing None = refl
append_nothing (Some x) = ap Some (append-nil x)

-- nothing before a text
pub nothing_before : (a : Option (List ℕ)) → Some [] ++? a ≡ a
nothing_before None = refl
nothing_before (Some x) = refl

-- where the first isn't there, nothing is
pub first_lacks : (a b : Option (List ℕ)) → a ≡ None → a ++? b ≡ None
first_lacks None b is = refl
first_lacks (Some x) b is = absurd (cc is)

-- where the second isn't there, nothing is
pub second_lacks : (a b : Option (List ℕ)) → b ≡ None → a ++? b ≡ None
second_lacks None b is = refl
second_lacks (Some x) None is = refl
second_lacks (Some x) (Some y) is = absurd (cc is)

-- a text that is put behind another, and one behind both
pub put_both : (before between now : List ℕ) (a b : Option (List ℕ)) → Some before ++? a ≡ Some between → Some between ++? b ≡ Some now → Some before ++? (a ++? b) ≡ Some now
put_both before between now a b first second = sym (appends_group (Some before) a b) ∙ ap (λ x. x ++? b) first ∙ second

-- ---- the texts of the numbers below a number

-- what one of them lacks, all lack
pub below_lacks : (text : ℕ → Option (List ℕ)) (n i : ℕ) → i < n → text i ≡ None → each_below text n ≡ None
below_lacks text zero i less is = absurd (omega (arith, less))
below_lacks text (suc n) i less is = elim (cases_lt i n) [
  | inl before ↦ first_lacks (each_below text n) (text n) (below_lacks text n i before is)
  | inr past ↦ second_lacks (each_below text n) (text n) (subst (λ k. text k ≡ None) (omega (arith, less, past)) is)
]

-- one more
pub below_more : (text : ℕ → Option (List ℕ)) (before between now : List ℕ) (i : ℕ) → Some before ++? each_below text i ≡ Some between → Some between ++? text i ≡ Some now → Some before ++? each_below text (i + 1) ≡ Some now
below_more text before between now i so more = subst (λ k. Some before ++? each_below text k ≡ Some now) (sym (add-one i)) (put_both before between now (each_below text i) (text i) so more)

-- ---- the texts of a list's items

module _ {A : Type 0} (text : A → Option (List ℕ)) where
  -- one more at the end
  pub each_append : (xs : List A) (x : A) → each_of text (xs ++ x ∷ []) ≡ each_of text xs ++? text x
  each_append [] x = append_nothing (text x) ∙ sym (nothing_before (text x))
  each_append (y ∷ ys) x = ap (λ rest. text y ++? rest) (each_append ys x) ∙ sym (appends_group (text y) (each_of text ys) (text x))

  -- what one of them lacks, all lack
  pub each_lacks : (xs : List A) (i : ℕ) (d : A) → i < length xs → text (get_or xs i d) ≡ None → each_of text xs ≡ None
  each_lacks [] i d less is = absurd (omega (arith, less))
  each_lacks (x ∷ xs) zero d less is = first_lacks (text x) (each_of text xs) is
  each_lacks (x ∷ xs) (suc i) d less is = second_lacks (text x) (each_of text xs) (each_lacks xs i d (omega (arith, less)) is)

  -- one more of those that are taken, behind what stands before
  pub each_more_behind : (xs : List A) (before : Option (List ℕ)) (between now : List ℕ) (i : ℕ) (d : A) → i < length xs → before ++? each_of text (take i xs) ≡ Some between → Some between ++? text (get_or xs i d) ≡ Some now
      → before ++? each_of text (take (i + 1) xs) ≡ Some now
  each_more_behind xs before between now i d within so more =
      ap (λ k. before ++? each_of text (take k xs)) (add-one i) ∙ ap (λ ys. before ++? each_of text ys) (take-suc xs i d within)
      ∙ ap (λ t. before ++? t) (each_append (take i xs) (get_or xs i d)) ∙ sym (appends_group before (each_of text (take i xs)) (text (get_or xs i d))) ∙ ap (λ t. t ++? text (get_or xs i d)) so ∙ more
