-- Lists of objects: that they are different, of two lists, and how many they can be.
use Rattle.std.proofs.Common.{ℕ, ◌≡◌, ◌≤◌, ◌<◌, ◌||◌, refl, ◌∙◌, ap, sym, subst, arith, Bool, true, false, eqb, List, [], ◌∷◌, ◌++◌, length}
use Rattle.std.specs.Cmp.{IsEquivalence}
use Rattle.std.specs.List.{AllByRecursion, IsDistinct}
use Rattle.std.specs.List.Sorted.{IsStrictlySortedBy}
use Rattle.std.specs.Ordering.{MatchOrdering, nat_cmp}
use Rattle.std.specs.declared.cmp.Ordering.TheVariants.{Less}
use Rattle.std.specs.Set.{is_member}
use Rattle.std.proofs.lemmas.Bool.{eq-eqb, eqb-true, or_left, or_right}
use Rattle.std.proofs.lemmas.Bool.Decides.{nat_tests}
use Rattle.std.proofs.lemmas.List.{length-append}
use Rattle.std.proofs.lemmas.List.Folds.{list_any-append}
use Rattle.std.proofs.lemmas.Map.Keys.{IsDistinct-cons, IsDistinct-head, IsDistinct-tail, sorted_head, sorted_tail}
use Rattle.std.proofs.lemmas.Map.Made.{length-le_from_is_member}
use Rattle.std.proofs.lemmas.Cmp.{ranked}
use Rattle.dso_gc.specs.Garbage.{IsIn}
use Rattle.dso_lookup.specs.Search.{is_listed}

-- what can't be true is false
refuted : (b : Bool) → (b ≡ true → ⊥) → b ≡ false
refuted true never = absurd (never refl)
refuted false never = refl

-- numbers are the same either way round
equal_numbers : IsEquivalence eqb
equal_numbers = record {
  refl = λ x. eq-eqb x x refl;
  symm = λ x y. grind (arith, nat_tests);
  congr = λ x y z same. ap (λ n. eqb n z) (eqb-true x y same);
}

-- an object that is listed is a member
listed_member : (objects : List ℕ) (o : ℕ) → is_listed o objects ≡ is_member eqb objects o
listed_member [] o = refl
listed_member (x ∷ objects) o = ap (λ b. b || is_listed o objects) (equal_numbers.symm x o) ∙ ap (λ b. eqb o x || b) (listed_member objects o)

-- the objects of two lists are those of the one or the other
pub listed_both : (xs ys : List ℕ) (o : ℕ) → is_listed o (xs ++ ys) ≡ (is_listed o xs || is_listed o ys)
listed_both xs ys o = list_any-append (λ listed. eqb listed o) xs ys

-- an object that isn't listed is none of those that are
none_same : (x : ℕ) (ys : List ℕ) → (IsIn ys x → ⊥) → AllByRecursion (λ y. eqb x y ≡ false) ys
none_same x [] never = tt
none_same x (y ∷ ys) never = (
  refuted (eqb x y) (λ same. never (or_left (eqb y x) (is_listed x ys) (equal_numbers.symm y x ∙ same))),
  none_same x ys (λ is. never (or_right (eqb y x) (is_listed x ys) is)),
)

all_both : (P : ℕ → Type 0) (xs ys : List ℕ) → AllByRecursion P xs → AllByRecursion P ys → AllByRecursion P (xs ++ ys)
all_both P [] ys first second = second
all_both P (x ∷ xs) ys first second = (first.0, all_both P xs ys first.1 second)

-- the objects of two lists that have none in common are different, where those of each are
pub distinct_both : (xs ys : List ℕ) → IsDistinct eqb xs → IsDistinct eqb ys → ((o : ℕ) → IsIn xs o → IsIn ys o → ⊥) → IsDistinct eqb (xs ++ ys)
distinct_both [] ys first second apart = second
distinct_both (x ∷ xs) ys first second apart =
    IsDistinct-cons eqb x (xs ++ ys)
    (all_both (λ y. eqb x y ≡ false) xs ys (IsDistinct-head eqb x xs first) (none_same x ys (apart x (or_left (eqb x x) (is_listed x xs) (eq-eqb x x refl)))))
    (distinct_both xs ys (IsDistinct-tail eqb x xs first) second (λ o is. apart o (or_right (eqb x o) (is_listed o xs) is)))

-- a number that is less, by its order, is another
less_other : (a b : ℕ) → nat_cmp a b ≡ Less → eqb a b ≡ false
less_other a b e = let less : a < b = subst (λ r. MatchOrdering r (a < b) (a ≡ b) (b < a)) e (ranked a b (nat_cmp a b) refl) in grind (arith, nat_tests, less)

all_other : (x : ℕ) (xs : List ℕ) → AllByRecursion (λ y. nat_cmp x y ≡ Less) xs → AllByRecursion (λ y. eqb x y ≡ false) xs
all_other x [] above = tt
all_other x (y ∷ xs) above = (less_other x y above.0, all_other x xs above.1)

-- objects that rise are different
pub rising_distinct : (xs : List ℕ) → IsStrictlySortedBy nat_cmp xs → IsDistinct eqb xs
unfolding IsDistinct
rising_distinct [] rising = tt
rising_distinct (x ∷ xs) rising =
    IsDistinct-cons eqb x xs (all_other x xs (sorted_head nat_cmp x xs rising)) (rising_distinct xs (sorted_tail nat_cmp x xs rising))

-- different objects that a list has are no more than it has
pub no_more : (xs ys : List ℕ) → IsDistinct eqb xs → ((o : ℕ) → IsIn xs o → IsIn ys o) → length xs ≤ length ys
no_more xs ys different within =
    length-le_from_is_member equal_numbers xs ys different (λ o is. sym (listed_member ys o) ∙ within o (listed_member xs o ∙ is))

-- of two ends of a list the longer has the shorter at its end
pub suffix_of : {X : Type 0} (later first more less : List X) → later ++ first ≡ more ++ less → length less ≤ length first
    → (between : List X) × (first ≡ between ++ less)
suffix_of [] first more less same short = (more, same)
suffix_of (x ∷ later) first [] less same short =
    let long : length (x ∷ later ++ first) ≡ length less = ap length same in
    let both = length-append (x ∷ later) first in
    absurd (omega (arith, short, long, both))
suffix_of (x ∷ later) first (y ∷ more) less same short = let rest : later ++ first ≡ more ++ less = cc same in suffix_of later first more less rest short
