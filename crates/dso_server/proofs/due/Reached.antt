-- How many triggers of a client are reached, by the numbers at which they are, the least first.
use Rattle.std.specs.List.{list_any}
use Rattle.std.specs.List.Sorted.{IsNonDecreasing}
use Rattle.std.specs.Prelude.{count_by, leb, slice_get, slice_index_or}
use Rattle.std.proofs.Common.{ℕ, zero, suc, ◌+◌, ◌≤◌, ◌<◌, ◌≡◌, refl, sym, ◌∙◌, ap, Bool, true, false, cond, eqb, ltb, ◌&&◌, ◌||◌, Option, Some, None, List, [], ◌∷◌, filter, length, map, arith}
use Rattle.std.proofs.lemmas.Bool.{le-ltb, leb-false, lt-leb, lt-ltb, ltb-false, ltb-true}
use Rattle.std.proofs.lemmas.List.Sorted.{IsNonDecreasingBy-drop, sum_by-IsPermutation}
use Rattle.std.proofs.lemmas.List.Sums.{sum_by-cons}
use Rattle.std.proofs.lemmas.Option.{slice_get_past, slice_get_read}
use Rattle.dso_base.specs.declared.journal.Trigger.{Trigger}
use Rattle.dso_law.specs.ServerReadings.{is_reached}
use Rattle.dso_server.specs.Triggers.{AreInOrder, numbers_of}

-- how many of the numbers are at most so much
abbrev pub passed : ℕ → List ℕ → ℕ
passed taken numbers = count_by (λ n. leb n taken) numbers

-- with one number before them
passed_with : (taken n : ℕ) (numbers : List ℕ) → passed taken (n ∷ numbers) ≡ cond (leb n taken) 1 0 + passed taken numbers
passed_with taken n numbers = sum_by-cons (λ n. cond (leb n taken) 1 0) n numbers

no_more : (n : ℕ) → n ≡ 0 + n
no_more n = omega arith

one_more : (n : ℕ) → suc n ≡ 1 + n
one_more n = omega arith

-- as many triggers of the client are reached as of their numbers are at most that
reached_is : (c taken : ℕ) (triggers : List Trigger) → length (filter (is_reached c taken) triggers) ≡ passed taken (numbers_of c triggers)
reached_is c taken [] = refl
reached_is c taken (trigger ∷ triggers) = by (eqb trigger.client c) (leb trigger.after taken) refl (reached_is c taken triggers)
  where
    rest : List Trigger
    rest = filter (is_reached c taken) triggers

    by : (its low : Bool) → leb trigger.after taken ≡ low → length rest ≡ passed taken (numbers_of c triggers)
        → length (cond (its && low) (trigger ∷ rest) rest)
        ≡ passed taken (map (λ trigger. trigger.after) (cond its (trigger ∷ filter (λ trigger. eqb trigger.client c) triggers) (filter (λ trigger. eqb trigger.client c) triggers)))
    by false low is same = same
    by true false is same =
        same ∙ no_more (passed taken (numbers_of c triggers)) ∙ ap (λ b. cond b 1 0 + passed taken (numbers_of c triggers)) (sym is)
        ∙ sym (passed_with taken trigger.after (numbers_of c triggers))
    by true true is same =
        ap suc same ∙ one_more (passed taken (numbers_of c triggers)) ∙ ap (λ b. cond b 1 0 + passed taken (numbers_of c triggers)) (sym is)
        ∙ sym (passed_with taken trigger.after (numbers_of c triggers))

-- behind a number that isn't at most so much none is
none_passed : (n taken : ℕ) (numbers : List ℕ) → ((j d : ℕ) → j < length numbers → n ≤ slice_index_or numbers j d) → leb n taken ≡ false → passed taken numbers ≡ 0
none_passed n taken [] above is = refl
none_passed n taken (m ∷ numbers) above is =
    let first : n ≤ m = above 0 0 (omega arith) in
    let over : taken < n = leb-false n taken is in
    passed_with taken m numbers
    ∙ ap (λ b. cond b 1 0 + passed taken numbers) (lt-leb m taken (omega (arith, first, over)))
    ∙ sym (no_more (passed taken numbers))
    ∙ none_passed n taken numbers (λ j d within. above (suc j) d (omega (arith, within))) is

-- whether the number that is looked at, if there is one, is at most so much
abbrev pub looked : Option ℕ → ℕ → Bool
looked (Some n) taken = leb n taken
looked None taken = false

none_below : (made : ℕ) → ltb made 0 ≡ false
none_below made = le-ltb made 0 (omega arith)

-- one more of each
both_more : (made n : ℕ) → ltb made n ≡ ltb (suc made) (1 + n)
both_more made n = by (ltb made n) refl
  where
    by : (more : Bool) → ltb made n ≡ more → more ≡ ltb (suc made) (1 + n)
    by true is = let h = ltb-true made n is in sym (lt-ltb (suc made) (1 + n) (omega (arith, h)))
    by false is = let h = ltb-false made n is in sym (le-ltb (suc made) (1 + n) (omega (arith, h)))

-- one look at a place tells whether more numbers are at most so much
look_tells : (made taken : ℕ) (numbers : List ℕ) → IsNonDecreasing numbers → looked (slice_get numbers made) taken ≡ ltb made (passed taken numbers)
look_tells made taken [] rising = sym (none_below made)
look_tells zero taken (n ∷ numbers) rising = by (leb n taken) refl ∙ ap (ltb 0) (sym (passed_with taken n numbers))
  where
    by : (low : Bool) → leb n taken ≡ low → low ≡ ltb 0 (cond low 1 0 + passed taken numbers)
    by true is = sym (lt-ltb 0 (1 + passed taken numbers) (omega arith))
    by false is =
        let none = none_passed n taken numbers (λ j d within. rising 0 (suc j) d (omega arith) (omega (arith, within))) is in
        sym (le-ltb 0 (0 + passed taken numbers) (omega (arith, none)))
look_tells (suc made) taken (n ∷ numbers) rising = by (leb n taken) refl (look_tells made taken numbers (IsNonDecreasingBy-drop (λ n. n) 1 (n ∷ numbers) rising))
    ∙ ap (ltb (suc made)) (sym (passed_with taken n numbers))
  where
    by : (low : Bool) → leb n taken ≡ low → looked (slice_get numbers made) taken ≡ ltb made (passed taken numbers)
        → looked (slice_get numbers made) taken ≡ ltb (suc made) (cond low 1 0 + passed taken numbers)
    by true is same = same ∙ both_more made (passed taken numbers)
    by false is same =
        let none = none_passed n taken numbers (λ j d within. rising 0 (suc j) d (omega arith) (omega (arith, within))) is in
        same ∙ le-ltb made (passed taken numbers) (omega (arith, none)) ∙ sym (le-ltb (suc made) (0 + passed taken numbers) (omega (arith, none)))

module _ (c taken made : ℕ) (triggers : List Trigger) (numbers : List ℕ) (are : AreInOrder c triggers numbers) where
  -- One look tells whether more triggers of the client are reached than so many.
  more_reached : looked (slice_get numbers made) taken ≡ ltb made (length (filter (is_reached c taken) triggers))
  more_reached =
      look_tells made taken numbers are.rising
      ∙ ap (ltb made) (sum_by-IsPermutation (λ n. cond (leb n taken) 1 0) (numbers_of c triggers) numbers are.all ∙ sym (reached_is c taken triggers))

  -- where a number stands at the place, and where none does
  pub found_tells : (n : ℕ) → true ≡ ltb made (length numbers) → n ≡ slice_index_or numbers made n → leb n taken ≡ ltb made (length (filter (is_reached c taken) triggers))
  found_tells n within is =
      sym (ap (λ at. looked at taken) (slice_get_read numbers (length numbers) made n refl (ltb-true made (length numbers) (sym within)) is)) ∙ more_reached

  pub none_tells : false ≡ ltb made (length numbers) → false ≡ ltb made (length (filter (is_reached c taken) triggers))
  none_tells within = sym (ap (λ at. looked at taken) (slice_get_past numbers made (ltb-false made (length numbers) (sym within)))) ∙ more_reached

-- some pass a test where one does
pub any_is : {X : Type 0} (test : X → Bool) (xs : List X) → ltb 0 (length (filter test xs)) ≡ list_any test xs
any_is test [] = refl
any_is test (x ∷ xs) = by (test x) (any_is test xs)
  where
    by : (its : Bool) → ltb 0 (length (filter test xs)) ≡ list_any test xs → ltb 0 (length (cond its (x ∷ filter test xs) (filter test xs))) ≡ (its || list_any test xs)
    by true same = lt-ltb 0 (suc (length (filter test xs))) (omega arith)
    by false same = same
