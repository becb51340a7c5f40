-- Two lists with the same entries, whose clocks climb, are one.
use Rattle.std.specs.List.{All, AllByRecursion, sum_by}
use Rattle.std.specs.List.Sorted.{IsNonDecreasingBy, IsPermutation}
use Rattle.std.proofs.Common.{ℕ, suc, ◌+◌, ◌≤◌, ◌<◌, ◌≡◌, ◌⊎◌, inl, inr, refl, sym, ◌∙◌, ap, subst, Bool, true, false, cond, eqb, List, [], ◌∷◌, ◌++◌, length, reverse, arith}
use mathlib.Core.List.{reverse-cons}
use Rattle.std.proofs.lemmas.Bool.{eqb-true}
use Rattle.std.proofs.lemmas.List.Sorted.{All-permutation, IsPermutation-reverse, IsPermutation-trans, sum_by-IsPermutation}
use Rattle.std.proofs.lemmas.List.Elements.{All-from_recursion, recursion_from_All}
use Rattle.std.proofs.lemmas.List.Sums.{sum_by-cons}
use Rattle.dso_base.specs.declared.journal.Entry.{Entry}
use Rattle.dso_base.specs.declared.journal.Node.{Node}
use Rattle.dso_plain.proofs.keys.SameKeys.{number_self}
use Rattle.dso_law.specs.Entries.{entries_of, is_node}
use Rattle.dso_log.specs.Logs.{Climbs}
use Rattle.dso_log.specs.Merged.{clock_of}
use Rattle.dso_log.proofs.Keeping.{all_weaker}
use Rattle.dso_host.specs.Gathered.{GatheredIsMerged}
use Rattle.dso_host.specs.Merged.{ClocksRise}

-- ---- members
abbrev In : Entry → List Entry → Type 0
In x [] = ⊥
In x (y ∷ ys) = (x ≡ y) ⊎ In x ys

all_in : (P : Entry → Type 0) (xs : List Entry) (x : Entry) → AllByRecursion P xs → In x xs → P x
all_in P [] x all its = absurd its
all_in P (y ∷ xs) x all (inl same) = subst P (sym same) all.0
all_in P (y ∷ xs) x all (inr its) = all_in P xs x all.1 its

in_self : (xs : List Entry) → AllByRecursion (λ x. In x xs) xs
in_self [] = tt
in_self (x ∷ xs) = (inl refl, all_weaker (λ y. In y xs) (λ y. In y (x ∷ xs)) (λ y its. inr its) xs (in_self xs))

all_moved : (P : Entry → Type 0) (xs ys : List Entry) → IsPermutation xs ys → AllByRecursion P xs → AllByRecursion P ys
all_moved P xs ys moved all = recursion_from_All P ys (All-permutation P xs ys moved (All-from_recursion P xs all))

in_reverse : (x : Entry) (xs : List Entry) → In x (reverse xs) → In x xs
in_reverse x xs its = all_in (λ y. In y xs) (reverse xs) x (all_moved (λ y. In y xs) xs (reverse xs) (IsPermutation-reverse xs) (in_self xs)) its

-- ---- counts of clocks
abbrev one_if : Bool → ℕ
one_if true = 1
one_if false = 0

abbrev at : ℕ → Entry → ℕ
at k e = one_if (eqb k e.clock)

none_at : (n : ℕ) (es : List Entry) → AllByRecursion (λ e. e.clock < n) es → sum_by (at n) es ≡ 0
none_at n [] all = refl
none_at n (e ∷ es) all = sum_by-cons (at n) e es ∙ ap (λ k. k + sum_by (at n) es) (by (eqb n e.clock) refl) ∙ omega (arith, none_at n es all.1)
  where
    by : (same : Bool) → eqb n e.clock ≡ same → one_if same ≡ 0
    by false is = refl
    by true is = absurd (omega (arith, eqb-true n e.clock is, all.0))

once : (k : ℕ) (es : List Entry) → Climbs es → sum_by (at k) es ≤ 1
once k [] climbs = omega arith
once k (e ∷ es) climbs = by (eqb k e.clock) refl (once k es climbs.0)
  where
    by : (same : Bool) → eqb k e.clock ≡ same → sum_by (at k) es ≤ 1 → sum_by (at k) (e ∷ es) ≤ 1
    by false is before = omega (arith, sum_by-cons (at k) e es, ap one_if is, before)
    by true is before = omega (arith, sum_by-cons (at k) e es, ap one_if is, subst (λ n. sum_by (at n) es ≡ 0) (sym (eqb-true k e.clock is)) (none_at e.clock es climbs.1))

below : (n : ℕ) (es : List Entry) → AllByRecursion (λ e. e.clock ≤ n) es → sum_by (at n) es ≡ 0 → AllByRecursion (λ e. e.clock < n) es
below n [] all none = tt
below n (e ∷ es) all none = (by (eqb n e.clock) refl, below n es all.1 (omega (arith, none, sum_by-cons (at n) e es)))
  where
    by : (same : Bool) → eqb n e.clock ≡ same → e.clock < n
    by true is = absurd (omega (arith, none, sum_by-cons (at n) e es, ap one_if is))
    by false is = strict n e.clock all.0 is
      where
        strict : (a b : ℕ) → b ≤ a → eqb a b ≡ false → b < a
        strict a b few is = grind (arith, few, is)

self_eqb : (n : ℕ) → eqb n n ≡ true
self_eqb n = number_self n

climbs_so : (es : List Entry) → ClocksRise es → ((k : ℕ) → sum_by (at k) es ≤ 1) → Climbs es
climbs_so [] rise few = tt
climbs_so (e ∷ es) rise few = (
  climbs_so es rise.0 (λ k. omega (arith, few k, sum_by-cons (at k) e es)),
  below e.clock es rise.1 (omega (arith, few e.clock, sum_by-cons (at e.clock) e es, ap one_if (self_eqb e.clock))),
)

-- ---- two climbing lists
not_among : (n : ℕ) (es : List Entry) (x : Entry) → AllByRecursion (λ e. e.clock < n) es → In x es → x.clock < n
not_among n es x all its = all_in (λ e. e.clock < n) es x all its

-- those with lower clocks than the first stand in the rest
in_rest : (a l : Entry) (us ls : List Entry) → AllByRecursion (λ e. e.clock < a.clock) us → a.clock ≤ l.clock → AllByRecursion (λ x. In x (l ∷ ls)) us → AllByRecursion (λ x. In x ls) us
in_rest a l [] ls low few all = tt
in_rest a l (x ∷ us) ls low few all = (by all.0, in_rest a l us ls low.1 few all.1)
  where
    by : In x (l ∷ ls) → In x ls
    by (inl same) = absurd (omega (arith, ap (λ e. e.clock) same, low.0, few))
    by (inr its) = its

no_longer : (us ls : List Entry) → Climbs us → Climbs ls → AllByRecursion (λ x. In x ls) us → length us ≤ length ls
no_longer [] ls climbs other all = omega arith
no_longer (a ∷ us) [] climbs other all = absurd all.0
no_longer (a ∷ us) (l ∷ ls) climbs other all = by all.0 (λ rest. no_longer us ls climbs.0 other.0 rest) (λ rest. no_longer (a ∷ us) ls climbs other.0 rest)
  where
    by : In a (l ∷ ls) → (AllByRecursion (λ x. In x ls) us → length us ≤ length ls) → (AllByRecursion (λ x. In x ls) (a ∷ us) → length (a ∷ us) ≤ length ls) → length (a ∷ us) ≤ length (l ∷ ls)
    by (inl same) shorter longer = omega (arith, shorter (in_rest a l us ls climbs.1 (omega (arith, ap (λ e. e.clock) same)) all.1))
    by (inr its) shorter longer = omega (arith, longer (its, in_rest a l us ls climbs.1 (omega (arith, not_among l.clock ls a other.1 its)) all.1))

same_list : (us ls : List Entry) → Climbs us → Climbs ls → AllByRecursion (λ x. In x ls) us → length us ≡ length ls → us ≡ ls
same_list [] [] climbs other all many = refl
same_list [] (l ∷ ls) climbs other all many = absurd (omega (arith, many))
same_list (a ∷ us) [] climbs other all many = absurd all.0
same_list (a ∷ us) (l ∷ ls) climbs other all many = by all.0 (λ rest. same_list us ls climbs.0 other.0 rest (omega (arith, many)))
  where
    by : In a (l ∷ ls) → (AllByRecursion (λ x. In x ls) us → us ≡ ls) → a ∷ us ≡ l ∷ ls
    by (inl same) then = ap (λ e. e ∷ us) same ∙ ap (λ list. l ∷ list) (then (in_rest a l us ls climbs.1 (omega (arith, ap (λ e. e.clock) same)) all.1))
    by (inr its) then = absurd (omega (arith, many, no_longer (a ∷ us) ls climbs other.0 (its, in_rest a l us ls climbs.1 (omega (arith, not_among l.clock ls a other.1 its)) all.1)))

-- ---- the entries of a node
module _ (node : Node) where
  abbrev own_at : ℕ → Entry → ℕ
  own_at k e = cond (is_node node e.node) (at k e) 0

  own_count : (f : Entry → ℕ) (es : List Entry) → sum_by (λ e. cond (is_node node e.node) (f e) 0) es ≡ sum_by f (entries_of node es)
  own_count f [] = refl
  own_count f (e ∷ es) = sum_by-cons (λ x. cond (is_node node x.node) (f x) 0) e es ∙ ap (λ k. cond (is_node node e.node) (f e) 0 + k) (own_count f es) ∙ by (is_node node e.node)
    where
      by : (its : Bool) → cond its (f e) 0 + sum_by f (entries_of node es) ≡ sum_by f (cond its (e ∷ entries_of node es) (entries_of node es))
      by true = sym (sum_by-cons f e (entries_of node es))
      by false = omega arith

  ones : (es : List Entry) → sum_by (λ e. 1) es ≡ length es
  ones [] = refl
  ones (e ∷ es) = sum_by-cons (λ x. 1) e es ∙ omega (arith, ones es)

  own_all : (Q : Entry → Type 0) (es : List Entry) → AllByRecursion (λ e. is_node node e.node ≡ true → Q e) es → AllByRecursion Q (entries_of node es)
  own_all Q [] all = tt
  own_all Q (e ∷ es) all = by (is_node node e.node) refl (own_all Q es all.1)
    where
      by : (its : Bool) → is_node node e.node ≡ its → AllByRecursion Q (entries_of node es) → AllByRecursion Q (cond its (e ∷ entries_of node es) (entries_of node es))
      by true is before = (all.0 is, before)
      by false is before = before

  own_in : (es : List Entry) → AllByRecursion (λ e. is_node node e.node ≡ true → In e (entries_of node es)) es
  own_in [] = tt
  own_in (e ∷ es) = (head, all_weaker (λ x. is_node node x.node ≡ true → In x (entries_of node es)) (λ x. is_node node x.node ≡ true → In x (entries_of node (e ∷ es))) (λ x before its. more x (is_node node e.node) (before its)) es (own_in es))
    where
      head : is_node node e.node ≡ true → In e (entries_of node (e ∷ es))
      head is = subst (λ b. In e (cond b (e ∷ entries_of node es) (entries_of node es))) (sym is) (inl refl)

      more : (x : Entry) (its : Bool) → In x (entries_of node es) → In x (cond its (e ∷ entries_of node es) (entries_of node es))
      more x true before = inr before
      more x false before = before

  own_rises : (es : List Entry) → ClocksRise es → ClocksRise (entries_of node es)
  own_rises [] rise = tt
  own_rises (e ∷ es) rise = by (is_node node e.node) (own_rises es rise.0)
    where
      by : (its : Bool) → ClocksRise (entries_of node es) → ClocksRise (cond its (e ∷ entries_of node es) (entries_of node es))
      by true before = (before, own_all (λ x. x.clock ≤ e.clock) es (all_weaker (λ x. x.clock ≤ e.clock) (λ x. is_node node x.node ≡ true → x.clock ≤ e.clock) (λ x few its. few) es rise.1))
      by false before = before

  -- the node's entries in another order of all
  own_same : (log all es : List Entry) → entries_of node all ≡ reverse log → Climbs log → IsPermutation all es → ClocksRise es → entries_of node es ≡ log
  own_same log all es own climbs moved rise =
      let counts : (f : Entry → ℕ) → sum_by f (entries_of node es) ≡ sum_by f log =
      λ f. sym (own_count f es) ∙ sum_by-IsPermutation (λ e. cond (is_node node e.node) (f e) 0) all es moved ∙ own_count f all ∙ ap (sum_by f) own ∙ sum_by-IsPermutation f log (reverse log) (IsPermutation-reverse log) in
      let members = own_all (λ x. In x log) es (all_moved (λ x. is_node node x.node ≡ true → In x log) all es moved
      (all_weaker (λ x. is_node node x.node ≡ true → In x (entries_of node all)) (λ x. is_node node x.node ≡ true → In x log) (λ x before its. in_reverse x log (subst (In x) own (before its))) all (own_in all))) in
      same_list (entries_of node es) log (climbs_so (entries_of node es) (own_rises es rise) (λ k. subst (λ n. n ≤ 1) (sym (counts (at k))) (once k log climbs))) climbs members
      (sym (ones (entries_of node es)) ∙ counts (λ e. 1) ∙ ones log)

-- ---- the order
rise_snoc : (es : List Entry) (e : Entry) → ClocksRise es → AllByRecursion (λ x. e.clock ≤ x.clock) es → ClocksRise (es ++ e ∷ [])
rise_snoc [] e rise above = (tt, tt)
rise_snoc (x ∷ es) e rise above = (rise_snoc es e rise.0 above.1, more es rise.1)
  where
    more : (es : List Entry) → AllByRecursion (λ before. before.clock ≤ x.clock) es → AllByRecursion (λ before. before.clock ≤ x.clock) (es ++ e ∷ [])
    more [] all = (above.0, tt)
    more (y ∷ es) all = (all.0, more es all.1)

rises : (es : List Entry) → IsNonDecreasingBy clock_of es → ClocksRise (reverse es)
rises [] order = tt
rises (e ∷ es) order =
    let first : All (λ x. e.clock ≤ x.clock) es = λ k d few. order 0 (suc k) d (omega arith) (omega (arith, few)) in
    subst ClocksRise (sym (reverse-cons e es)) (rise_snoc (reverse es) e (rises es (λ i j d before few. order (suc i) (suc j) d (omega (arith, before)) (omega (arith, few))))
    (all_moved (λ x. e.clock ≤ x.clock) es (reverse es) (IsPermutation-reverse es) (recursion_from_All (λ x. e.clock ≤ x.clock) es first)))

pub gathered_is_merged : GatheredIsMerged
gathered_is_merged log all journal own climbs moved order = record {
  whole = λ node. own_same node (log node) all (reverse journal) (own node) (climbs node) (IsPermutation-trans all journal (reverse journal) moved (IsPermutation-reverse journal)) (rises journal order);
  order = rises journal order;
}
