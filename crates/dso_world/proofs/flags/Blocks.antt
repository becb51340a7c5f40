-- A row of flags in blocks of 64, each with how many are set.
use Rattle.std.proofs.Common.{ℕ, zero, suc, ◌+◌, ◌*◌, ◌-◌, ◌<◌, ◌≤◌, ◌≡◌, ◌≢◌, ◌⊎◌, inl, inr, refl, sym, ◌∙◌, ap, subst, Bool, true, false, cond, Option, Some, None, List, [], ◌∷◌, drop, length, ltb, min, option_map, replicate, slice_get, slice_set, take, arith}
use Rattle.std.proofs.lemmas.List.{drop-drop, length-drop, length-set, length-replicate, take-append-drop, take_all}
use Rattle.std.proofs.lemmas.Bool.{ltb-false, ltb-true}
use Rattle.std.proofs.lemmas.List.Sums.{sum_by-append}
use Rattle.dso_world.specs.Flags.{AreCounts, one_if, else_before, is_set, next_set, nth_set, set_count}
use Rattle.dso_world.proofs.flags.NthSet.{not_there, one_more, too_few}
use Rattle.dso_world.proofs.nodes.Stepped.{written}

-- as many are set as in a front and behind it
pub in_parts : (k : ℕ) (flags : List Bool) → set_count flags ≡ set_count (take k flags) + set_count (drop k flags)
in_parts k flags = ap set_count (sym (take-append-drop k flags)) ∙ sum_by-append (λ x. cond (is_set x) 1 0) (take k flags) (drop k flags)

-- and in a front that is longer by so many
longer_front : (k m : ℕ) (flags : List Bool) → set_count (take (k + m) flags) ≡ set_count (take k flags) + set_count (take m (drop k flags))
longer_front zero m flags = same (0 + m) m (omega arith)
  where
    same : (a b : ℕ) → a ≡ b → set_count (take a flags) ≡ 0 + set_count (take b flags)
    same a b is = ap (λ n. set_count (take n flags)) is ∙ omega arith
longer_front (suc k) m [] = empty (suc k + m) m
  where
    empty : (a b : ℕ) → set_count (take a []) ≡ 0 + set_count (take b [])
    empty zero zero = refl
    empty zero (suc b) = refl
    empty (suc a) zero = refl
    empty (suc a) (suc b) = refl
longer_front (suc k) m (flag ∷ rest) = by (suc k + m) (omega arith) (longer_front k m rest)
  where
    by : (a : ℕ) → a ≡ suc (k + m) → set_count (take (k + m) rest) ≡ set_count (take k rest) + set_count (take m (drop k rest)) → set_count (take a (flag ∷ rest)) ≡ set_count (flag ∷ take k rest) + set_count (take m (drop k rest))
    by a is later = ap (λ n. set_count (take n (flag ∷ rest))) is ∙ one_more flag (take (k + m) rest) ∙ (let front = one_more flag (take k rest) in omega (arith, front, later))

-- one place further than some places further
one_on : (k : ℕ) (o : Option ℕ) → option_map (λ i. suc i) (option_map (λ i. k + i) o) ≡ option_map (λ i. suc k + i) o
one_on k None = refl
one_on k (Some i) =
    let same : suc (k + i) ≡ suc k + i = omega arith in
    ap (λ n. Some n) same

pub no_places : (o : Option ℕ) → o ≡ option_map (λ i. 0 + i) o
no_places None = refl
no_places (Some i) =
    let same : i ≡ 0 + i = omega arith in
    ap (λ n. Some n) same

further_on : (k m at : ℕ) (o : Option ℕ) → at ≡ k + m → option_map (λ i. k + i) (option_map (λ i. m + i) o) ≡ option_map (λ i. at + i) o
further_on k m at None is = refl
further_on k m at (Some i) is =
    let same : k + (m + i) ≡ at + i = omega (arith, is) in
    ap (λ n. Some n) same

-- a front is passed over that has no more set than the number
pub passed : (k n left : ℕ) (flags : List Bool) → n ≡ set_count (take k flags) + left → nth_set n flags ≡ option_map (λ i. k + i) (nth_set left (drop k flags))
passed zero n left flags is =
    let same : n ≡ left = omega (arith, is) in
    ap (λ m. nth_set m flags) same ∙ no_places (nth_set left flags)
passed (suc k) n left [] is = refl
passed (suc k) n left (false ∷ rest) is =
    let fewer : n ≡ set_count (take k rest) + left = omega (arith, is, one_more false (take k rest)) in
    ap (option_map (λ i. suc i)) (passed k n left rest fewer) ∙ one_on k (nth_set left (drop k rest))
passed (suc k) zero left (true ∷ rest) is = absurd (omega (arith, is, one_more true (take k rest)))
passed (suc k) (suc n) left (true ∷ rest) is =
    let fewer : n ≡ set_count (take k rest) + left = omega (arith, is, one_more true (take k rest)) in
    ap (option_map (λ i. suc i)) (passed k n left rest fewer) ∙ one_on k (nth_set left (drop k rest))

-- what is found in a front is found
pub in_front : (k n at : ℕ) (flags : List Bool) → nth_set n (take k flags) ≡ Some at → nth_set n flags ≡ Some at
in_front zero n at flags is = absurd (cc is)
in_front (suc k) n at [] is = absurd (cc is)
in_front (suc k) n at (false ∷ rest) is = one_back (nth_set n (take k rest)) (nth_set n rest) at (λ i. in_front k n i rest) is
  where
    one_back : (front all : Option ℕ) (at : ℕ) → ((i : ℕ) → front ≡ Some i → all ≡ Some i) → option_map (λ i. suc i) front ≡ Some at → option_map (λ i. suc i) all ≡ Some at
    one_back None all at same is = absurd (cc is)
    one_back (Some i) all at same is = ap (option_map (λ i. suc i)) (same i refl) ∙ is
in_front (suc k) zero at (true ∷ rest) is = is
in_front (suc k) (suc n) at (true ∷ rest) is = one_back (nth_set n (take k rest)) (nth_set n rest) at (λ i. in_front k n i rest) is
  where
    one_back : (front all : Option ℕ) (at : ℕ) → ((i : ℕ) → front ≡ Some i → all ≡ Some i) → option_map (λ i. suc i) front ≡ Some at → option_map (λ i. suc i) all ≡ Some at
    one_back None all at same is = absurd (cc is)
    one_back (Some i) all at same is = ap (option_map (λ i. suc i)) (same i refl) ∙ is

-- ---- counts

-- a block is passed over that has no more set than the number
pub block_passed : (flags : List Bool) (counts : List ℕ) (block n count left : ℕ) → AreCounts flags counts → slice_get counts block ≡ Some count → n ≡ count + left
    → option_map (λ i. 64 * block + i) (nth_set n (drop (64 * block) flags)) ≡ option_map (λ i. 64 * (block + 1) + i) (nth_set left (drop (64 * (block + 1)) flags))
block_passed flags counts block n count left are there is =
    let here : set_count (take (64 * block) flags) + count ≡ set_count (take (64 * block + 64) flags) = are.each block count there in
    let many : n ≡ set_count (take 64 (drop (64 * block) flags)) + left = omega (arith, is, here, longer_front (64 * block) 64 flags) in
    let next : 64 * (block + 1) ≡ 64 * block + 64 = omega arith in
    ap (option_map (λ i. 64 * block + i)) (passed 64 n left (drop (64 * block) flags) many)
    ∙ further_on (64 * block) 64 (64 * (block + 1)) (nth_set left (drop 64 (drop (64 * block) flags))) next
    ∙ ap (λ list. option_map (λ i. 64 * (block + 1) + i) (nth_set left list)) (drop-drop 64 (64 * block) flags ∙ ap (λ k. drop k flags) (sym next))

-- none is found behind all blocks
pub none_behind : (flags : List Bool) (counts : List ℕ) (block n : ℕ) → AreCounts flags counts → length counts ≤ block → nth_set n (drop (64 * block) flags) ≡ None
none_behind flags counts block n are past =
    let all = are.all in
    ap (nth_set n) (dropped_all (64 * block) flags (omega (arith, all, past)))
  where
    dropped_all : (k : ℕ) (flags : List Bool) → length flags ≤ k → drop k flags ≡ []
    dropped_all zero [] few = refl
    dropped_all zero (flag ∷ rest) few = absurd (omega (arith, few))
    dropped_all (suc k) [] few = refl
    dropped_all (suc k) (flag ∷ rest) few = dropped_all k rest (omega (arith, few))

-- at first all counts are 0
pub at_first : (many blocks : ℕ) → many ≤ 64 * blocks → 64 * blocks ≤ many + 64 → AreCounts (replicate many false) (replicate blocks zero)
at_first many blocks all few = record {
  all = omega (arith, all, as_many, as_many_counts);
  few = omega (arith, few, as_many, as_many_counts);
  each = λ block count there. omega (arith, zero_there blocks block count there, none_set (64 * block) many, none_set (64 * block + 64) many);
}
  where
    as_many : length (replicate many false) ≡ many
    as_many = length-replicate many false

    as_many_counts : length (replicate blocks zero) ≡ blocks
    as_many_counts = length-replicate blocks zero

    zero_there : (blocks block count : ℕ) → slice_get (replicate blocks zero) block ≡ Some count → count ≡ 0
    zero_there zero block count there = absurd (cc there)
    zero_there (suc blocks) zero count there = sym (cc there)
    zero_there (suc blocks) (suc block) count there = zero_there blocks block count there

    none_set : (k many : ℕ) → set_count (take k (replicate many false)) ≡ 0
    none_set zero many = refl
    none_set (suc k) zero = refl
    none_set (suc k) (suc many) = one_more false (take k (replicate many false)) ∙ omega (arith, none_set k many)

pub none_at_first : (many : ℕ) (flags : List Bool) → flags ≡ replicate many false → set_count flags ≡ 0
none_at_first many flags is = ap set_count is ∙ none many
  where
    none : (many : ℕ) → set_count (replicate many false) ≡ 0
    none zero = refl
    none (suc many) = one_more false (replicate many false) ∙ omega (arith, none many)

-- two numbers that differ
apart : (a b : ℕ) → a ≢ b → (suc a ≤ b) ⊎ (suc b ≤ a)
apart zero zero differ = absurd (differ refl)
apart zero (suc b) differ = inl (omega arith)
apart (suc a) zero differ = inr (omega arith)
apart (suc a) (suc b) differ = elim (apart a b (λ same. differ (ap (λ n. suc n) same))) [
  | inl less ↦ inl (omega (arith, less))
  | inr more ↦ inr (omega (arith, more))
]

-- a flag that is written behind a front leaves that as it is, and in it changes its count
front_stays : (k place : ℕ) (to : Bool) (flags : List Bool) → k ≤ place → take k (slice_set flags place to) ≡ take k flags
front_stays k place to [] before = refl
front_stays zero place to (flag ∷ rest) before = refl
front_stays (suc k) zero to (flag ∷ rest) before = absurd (omega (arith, before))
front_stays (suc k) (suc place) to (flag ∷ rest) before = ap (λ list. flag ∷ list) (front_stays k place to rest (omega (arith, before)))

front_counts : (k place : ℕ) (was to : Bool) (flags : List Bool) → slice_get flags place ≡ Some was → place < k
    → set_count (take k (slice_set flags place to)) + one_if was ≡ set_count (take k flags) + one_if to
front_counts k place was to [] there within = absurd (cc there)
front_counts zero place was to (flag ∷ rest) there within = absurd (omega (arith, within))
front_counts (suc k) zero was to (flag ∷ rest) there within =
    let same : flag ≡ was = cc there in
    let before : one_if flag ≡ one_if was = ap one_if same in
    omega (arith, before, one_more to (take k rest), one_more flag (take k rest))
front_counts (suc k) (suc place) was to (flag ∷ rest) there within =
    omega (arith, one_more flag (take k (slice_set rest place to)), one_more flag (take k rest), front_counts k place was to rest there (omega (arith, within)))

-- so does the whole row,
pub written_count : (place : ℕ) (was to : Bool) (flags : List Bool) → slice_get flags place ≡ Some was → set_count (slice_set flags place to) + one_if was ≡ set_count flags + one_if to
written_count place was to [] there = absurd (cc there)
written_count zero was to (flag ∷ rest) there =
    let same : flag ≡ was = cc there in
    let before : one_if flag ≡ one_if was = ap one_if same in
    omega (arith, before, one_more to rest, one_more flag rest)
written_count (suc place) was to (flag ∷ rest) there = omega (arith, one_more flag (slice_set rest place to), one_more flag rest, written_count place was to rest there)

-- and one block. a flag is written.
pub written_counts : (flags : List Bool) (counts : List ℕ) (block place count next : ℕ) (was to : Bool) → AreCounts flags counts → slice_get flags place ≡ Some was → slice_get counts block ≡ Some count
    → 64 * block ≤ place → place < 64 * block + 64 → next + one_if was ≡ count + one_if to → AreCounts (slice_set flags place to) (slice_set counts block next)
written_counts flags counts block place count next was to are there counted from below is = record {
  all = let all = are.all in omega (arith, all, length-set flags place to, length-set counts block next);
  few = let few = are.few in omega (arith, few, length-set flags place to, length-set counts block next);
  each = λ other n stands. by other n (written counts block other next n stands);
}
  where
    after : (k : ℕ) → place < k → set_count (take k (slice_set flags place to)) + one_if was ≡ set_count (take k flags) + one_if to
    after k within = front_counts k place was to flags there within

    before : (k : ℕ) → k ≤ place → set_count (take k (slice_set flags place to)) ≡ set_count (take k flags)
    before k within = ap set_count (front_stays k place to flags within)

    Right : ℕ → ℕ → Type 0
    Right other n = set_count (take (64 * other) (slice_set flags place to)) + n ≡ set_count (take (64 * other + 64) (slice_set flags place to))

    elsewhere : (other n : ℕ) → ((suc other ≤ block) ⊎ (suc block ≤ other)) → slice_get counts other ≡ Some n → Right other n
    elsewhere other n (inl lower) stands =
        let was_right = are.each other n stands in
        omega (arith, was_right, before (64 * other) (omega (arith, lower, from)), before (64 * other + 64) (omega (arith, lower, from)))
    elsewhere other n (inr higher) stands =
        let was_right = are.each other n stands in
        omega (arith, was_right, after (64 * other) (omega (arith, higher, below)), after (64 * other + 64) (omega (arith, higher, below)))

    by : (other n : ℕ) → ((other ≡ block) × (n ≡ next)) ⊎ ((other ≢ block) × (slice_get counts other ≡ Some n)) → Right other n
    by other n (inl here) =
        let was_right = are.each block count counted in
        let right : Right block next = omega (arith, was_right, is, before (64 * block) from, after (64 * block + 64) below) in
        subst (λ k. Right k n) (sym here.0) (subst (Right block) (sym here.1) right)
    by other n (inr away) = elsewhere other n (apart other block away.0) away.1

-- a flag that is set is counted in its block, and a block has no more than its flags
few_set : (k : ℕ) (flags : List Bool) → set_count (take k flags) ≤ k
few_set zero flags = omega arith
few_set (suc k) [] = omega arith
few_set (suc k) (true ∷ rest) = omega (arith, one_more true (take k rest), few_set k rest)
few_set (suc k) (false ∷ rest) = omega (arith, one_more false (take k rest), few_set k rest)

module _ (flags : List Bool) (counts : List ℕ) (block place count : ℕ) (are : AreCounts flags counts) (counted : slice_get counts block ≡ Some count) where
  pub counted_there : (was : Bool) → slice_get flags place ≡ Some was → 64 * block ≤ place → place < 64 * block + 64 → one_if was ≤ count
  counted_there was there from below =
      let here = are.each block count counted in
      let off = slice_set flags place false in
      omega (arith, here, front_counts (64 * block + 64) place was false flags there below, longer_front (64 * block) 64 off, ap set_count (front_stays (64 * block) place false flags from))

  pub few_there : count ≤ 64
  few_there =
      let here = are.each block count counted in
      omega (arith, here, longer_front (64 * block) 64 flags, few_set 64 (drop (64 * block) flags))

-- ---- the next one set

-- the rest of a block, as far as there are flags
pub rest_of_block : (begin to end : ℕ) (flags : List Bool) → end ≡ min (length flags) to → begin ≤ to → take (end - begin) (drop begin flags) ≡ take (to - begin) (drop begin flags)
rest_of_block begin to end flags is before = by (ltb to (length flags)) refl
  where
    many : length (drop begin flags) ≡ length flags - begin
    many = length-drop begin flags

    by : (shorter : Bool) → ltb to (length flags) ≡ shorter → take (end - begin) (drop begin flags) ≡ take (to - begin) (drop begin flags)
    by true less =
        let same : end ≡ to = omega (arith, is, ltb-true to (length flags) less) in
        ap (λ n. take (n - begin) (drop begin flags)) same
    by false less =
        let same : end ≡ length flags = omega (arith, is, ltb-false to (length flags) less) in
        take_all (end - begin) (drop begin flags) (omega (arith, many, same)) ∙ sym (take_all (to - begin) (drop begin flags) (omega (arith, many, ltb-false to (length flags) less)))

-- It is the first of the rest of a block,
pub next_in_block : (begin many at : ℕ) (flags : List Bool) → nth_set 0 (take many (drop begin flags)) ≡ Some at → Some (begin + at) ≡ next_set begin flags
next_in_block begin many at flags is = sym (ap (λ place. else_before begin place (nth_set 0 (take begin flags))) (in_front many 0 at (drop begin flags) is))

-- or the first behind that,
pub next_behind : (begin many from place : ℕ) (flags : List Bool) → nth_set 0 (take many (drop begin flags)) ≡ None → begin + many ≡ from → Some place ≡ option_map (λ i. from + i) (nth_set 0 (drop from flags))
    → Some place ≡ next_set begin flags
next_behind begin many from place flags none sum found = by (nth_set 0 (drop from flags)) refl found
  where
    skipped : nth_set 0 (drop begin flags) ≡ option_map (λ i. many + i) (nth_set 0 (drop from flags))
    skipped =
        let few = too_few 0 (take many (drop begin flags)) none in
        passed many 0 0 (drop begin flags) (omega (arith, few)) ∙ ap (λ list. option_map (λ i. many + i) (nth_set 0 list)) (drop-drop many begin flags ∙ ap (λ k. drop k flags) sum)

    by : (o : Option ℕ) → nth_set 0 (drop from flags) ≡ o → Some place ≡ option_map (λ i. from + i) o → Some place ≡ next_set begin flags
    by None is at = absurd (cc at)
    by (Some i) is at =
        let same : from + i ≡ begin + (many + i) = omega (arith, sum) in
        at ∙ ap (λ n. Some n) same ∙ sym (ap (λ place. else_before begin place (nth_set 0 (take begin flags))) (skipped ∙ ap (option_map (λ i. many + i)) is))

-- or, where none is set behind the begin, the first of all.
pub next_of_all : (begin many from : ℕ) (flags : List Bool) → nth_set 0 (take many (drop begin flags)) ≡ None → begin + many ≡ from → None ≡ option_map (λ i. from + i) (nth_set 0 (drop from flags))
    → nth_set 0 flags ≡ next_set begin flags
next_of_all begin many from flags none sum found = by (nth_set 0 (take begin flags)) refl ∙ sym (ap (λ place. else_before begin place (nth_set 0 (take begin flags))) nothing)
  where
    none_of : (o : Option ℕ) → None ≡ option_map (λ i. from + i) o → o ≡ None
    none_of None is = refl
    none_of (Some i) is = absurd (cc is)

    nothing : nth_set 0 (drop begin flags) ≡ None
    nothing =
        let few = too_few 0 (take many (drop begin flags)) none in
        passed many 0 0 (drop begin flags) (omega (arith, few)) ∙ ap (λ list. option_map (λ i. many + i) (nth_set 0 list)) (drop-drop many begin flags ∙ ap (λ k. drop k flags) sum)
        ∙ ap (option_map (λ i. many + i)) (none_of (nth_set 0 (drop from flags)) found)

    by : (o : Option ℕ) → nth_set 0 (take begin flags) ≡ o → nth_set 0 flags ≡ o
    by (Some at) is = in_front begin 0 at flags is
    by None is = not_there 0 flags (omega (arith, in_parts begin flags, too_few 0 (take begin flags) is, too_few 0 (drop begin flags) nothing))
