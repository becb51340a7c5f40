-- Two lists in order with the entries of the same logs of different nodes are one.
use Rattle.std.specs.List.{AllByRecursion, sum_by}
use Rattle.std.specs.List.Sorted.{IsPermutation}
use Rattle.std.proofs.Common.{ℕ, suc, ◌+◌, ◌≤◌, ◌<◌, ◌≡◌, ◌≢◌, ◌⊎◌, ◌&&◌, inl, inr, refl, sym, ◌∙◌, ap, subst, Bool, true, false, eqb, List, [], ◌∷◌, length, reverse, slice_index_or, arith}
use Rattle.std.proofs.lemmas.Bool.Decides.{eqb_tells}
use Rattle.std.proofs.lemmas.List.Elements.{All-from_recursion, recursion_from_All}
use Rattle.std.proofs.lemmas.List.Sorted.{All-permutation, IsPermutation-reverse, IsPermutation-sym, IsPermutation-trans, length_permutation, sum_by-IsPermutation}
use Rattle.std.proofs.lemmas.List.Sums.{sum_by-append, sum_by-cons}
use Rattle.dso_base.specs.declared.journal.Entry.{Entry}
use Rattle.dso_base.specs.declared.journal.Node.{Node}
use Rattle.dso_base.specs.declared.journal.Node.TheVariants.{Server, Client}
use Rattle.dso_log.specs.Logs.{Climbs, Log, LogKeeps}
use Rattle.dso_log.specs.Merged.{AllKeep, AreInOrder, AreOfDifferentNodes, IsMerged, IsTheMerged, entries_of_all, node_number, node_of}
use Rattle.dso_log.proofs.Keeping.{all_weaker}

-- nodes with one number are one
same_node : (a b : Node) → node_number a ≡ node_number b → a ≡ b
same_node Server Server same = refl
same_node Server (Client c) same = absurd (omega (arith, same))
same_node (Client c) Server same = absurd (omega (arith, same))
same_node (Client c) (Client d) same = ap Client (omega (arith, same))

-- ---- how many entries have a clock and a node
abbrev one_if : Bool → ℕ
one_if true = 1
one_if false = 0

abbrev at : ℕ → ℕ → Entry → ℕ
at clock number e = one_if (eqb clock e.clock && eqb number (node_of e))

-- the entry is there, or it isn't counted
at_tells : (clock number : ℕ) (e : Entry) → (at clock number e ≡ 0) ⊎ ((at clock number e ≡ 1) × (clock ≡ e.clock) × (number ≡ node_of e))
at_tells clock number e = by (eqb_tells clock e.clock) (eqb_tells number (node_of e))
  where
    by : (((eqb clock e.clock ≡ true) × (clock ≡ e.clock)) ⊎ ((eqb clock e.clock ≡ false) × (clock ≢ e.clock)))
        → (((eqb number (node_of e) ≡ true) × (number ≡ node_of e)) ⊎ ((eqb number (node_of e) ≡ false) × (number ≢ node_of e)))
        → (at clock number e ≡ 0) ⊎ ((at clock number e ≡ 1) × (clock ≡ e.clock) × (number ≡ node_of e))
    by (inr other) numbers = inl (rw other.0 refl)
    by (inl same) (inr other) = inl (rw (same.0, other.0) refl)
    by (inl same) (inl its) = inr (rw (same.0, its.0) refl, same.1, its.1)

-- an entry is counted at its own clock and node
at_own : (clock number : ℕ) (e : Entry) → clock ≡ e.clock → number ≡ node_of e → at clock number e ≡ 1
at_own clock number e here its = by (eqb_tells clock e.clock) (eqb_tells number (node_of e))
  where
    by : (((eqb clock e.clock ≡ true) × (clock ≡ e.clock)) ⊎ ((eqb clock e.clock ≡ false) × (clock ≢ e.clock)))
        → (((eqb number (node_of e) ≡ true) × (number ≡ node_of e)) ⊎ ((eqb number (node_of e) ≡ false) × (number ≢ node_of e)))
        → at clock number e ≡ 1
    by (inr other) numbers = absurd (other.1 here)
    by (inl same) (inr other) = absurd (other.1 its)
    by (inl same) (inl own) = rw (same.0, own.0) refl

-- none is counted where each is another
none_at : (clock number : ℕ) (es : List Entry) → AllByRecursion (λ e. at clock number e ≡ 0) es → sum_by (at clock number) es ≡ 0
none_at clock number [] all = refl
none_at clock number (e ∷ es) all = omega (arith, sum_by-cons (at clock number) e es, all.0, none_at clock number es all.1)

-- ---- in a log
before_that : (clock number : ℕ) (es : List Entry) → AllByRecursion (λ e. e.clock < clock) es → sum_by (at clock number) es ≡ 0
before_that clock number es all = none_at clock number es (all_weaker (λ e. e.clock < clock) (λ e. at clock number e ≡ 0) none es all)
  where
    none : (e : Entry) → e.clock < clock → at clock number e ≡ 0
    none e less = elim (at_tells clock number e) [ inl nothing ↦ nothing | inr one ↦ absurd (omega (arith, less, one.1)) ]

once_where_climbs : (clock number : ℕ) (es : List Entry) → Climbs es → sum_by (at clock number) es ≤ 1
once_where_climbs clock number [] climbs = omega arith
once_where_climbs clock number (e ∷ es) climbs = by (at_tells clock number e) (once_where_climbs clock number es climbs.0)
  where
    by : ((at clock number e ≡ 0) ⊎ ((at clock number e ≡ 1) × (clock ≡ e.clock) × (number ≡ node_of e)))
        → sum_by (at clock number) es ≤ 1 → sum_by (at clock number) (e ∷ es) ≤ 1
    by (inl none) few = omega (arith, sum_by-cons (at clock number) e es, none, few)
    by (inr one) few = omega (
      arith,
      sum_by-cons (at clock number) e es,
      one.0,
      before_that clock number es
          (subst (λ k. AllByRecursion (λ x. x.clock < k) es) (sym one.1) climbs.1),
    )

same_count : (clock number : ℕ) (es : List Entry) → sum_by (at clock number) (reverse es) ≡ sum_by (at clock number) es
same_count clock number es = sum_by-IsPermutation (at clock number) es (reverse es) (IsPermutation-reverse es)

once_in_log : (clock number : ℕ) (node : Node) (es : List Entry) → LogKeeps node es → sum_by (at clock number) es ≤ 1
once_in_log clock number node es keeps = omega (arith, same_count clock number es, once_where_climbs clock number (reverse es) keeps.climbs)

none_in_other : (clock number : ℕ) (node : Node) (es : List Entry) → LogKeeps node es → node_number node ≢ number → sum_by (at clock number) es ≡ 0
none_in_other clock number node es keeps other = sym (same_count clock number es) ∙
    none_at clock number (reverse es) (all_weaker (λ e. e.node ≡ node) (λ e. at clock number e ≡ 0) none (reverse es) keeps.own)
  where
    none : (e : Entry) → e.node ≡ node → at clock number e ≡ 0
    none e own = elim (at_tells clock number e) [ inl nothing ↦ nothing | inr one ↦ absurd (other (sym (one.2 ∙ ap node_number own))) ]

-- ---- in logs of different nodes
count_in_all : (clock number : ℕ) (log : Log) (logs : List Log)
    → sum_by (at clock number) (entries_of_all (log ∷ logs)) ≡ sum_by (at clock number) log.entries + sum_by (at clock number) (entries_of_all logs)
count_in_all clock number log logs = sum_by-append (at clock number) log.entries (entries_of_all logs)

none_in_others : (clock number : ℕ) (node : Node) (logs : List Log) → AllKeep logs → node_number node ≡ number
    → AllByRecursion (λ other. other.node ≢ node) logs → sum_by (at clock number) (entries_of_all logs) ≡ 0
none_in_others clock number node [] keep its others = refl
none_in_others clock number node (log ∷ logs) keep its others = omega (
  arith,
  count_in_all clock number log logs,
  none_in_other clock number log.node log.entries keep.0 (λ same. others.0 (same_node log.node node (same ∙ sym its))),
  none_in_others clock number node logs keep.1 its others.1,
)

once_in_all : (clock number : ℕ) (logs : List Log) → AllKeep logs → AreOfDifferentNodes logs → sum_by (at clock number) (entries_of_all logs) ≤ 1
once_in_all clock number [] keep different = omega arith
once_in_all clock number (log ∷ logs) keep different = by (eqb_tells (node_number log.node) number) (once_in_all clock number logs keep.1 different.1)
  where
    by : (((eqb (node_number log.node) number ≡ true) × (node_number log.node ≡ number)) ⊎ ((eqb (node_number log.node) number ≡ false) × (node_number log.node ≢ number)))
        → sum_by (at clock number) (entries_of_all logs) ≤ 1 → sum_by (at clock number) (entries_of_all (log ∷ logs)) ≤ 1
    by (inl its) few = omega (
      arith,
      count_in_all clock number log logs,
      once_in_log clock number log.node log.entries keep.0,
      none_in_others clock number log.node logs keep.1 its.1 different.0,
    )
    by (inr other) few = omega (arith, count_in_all clock number log logs, none_in_other clock number log.node log.entries keep.0 other.1, few)

-- ---- entries in order
record NotAfter (a b : Entry) : Type 0 where
  pub clocks : a.clock ≤ b.clock
  pub nodes : a.clock ≡ b.clock → node_of a ≤ node_of b

record Before (a b : Entry) : Type 0 where
  pub clocks : a.clock ≤ b.clock
  pub nodes : a.clock ≡ b.clock → node_of a < node_of b

not_after_both : (a b c : Entry) → NotAfter a b → NotAfter b c → NotAfter a c
not_after_both a b c first second = record {
  clocks = omega (arith, first.clocks, second.clocks);
  nodes = λ same. omega (arith, first.clocks, second.clocks, same, first.nodes (omega (arith, first.clocks, second.clocks, same)), second.nodes (omega (arith, first.clocks, second.clocks, same)));
}

not_both : (a b : Entry) → Before a b → NotAfter b a → ⊥
not_both a b first second =
    let same : a.clock ≡ b.clock = omega (arith, first.clocks, second.clocks) in
    omega (arith, first.nodes same, second.nodes (sym same))

not_after : (a b : Entry) → Before a b → NotAfter a b
not_after a b before = record { clocks = before.clocks; nodes = λ same. omega (arith, before.nodes same) }

in_order_behind : (e : Entry) (es : List Entry) → AreInOrder (e ∷ es) → AreInOrder es
in_order_behind e es order = record {
  clocks = λ i j d least few. order.clocks (suc i) (suc j) d (omega (arith, least)) (omega (arith, few));
  nodes = λ k d few same. subst (λ x. node_of (slice_index_or es k d) ≤ node_of x) (behind k d)
      (order.nodes (suc k) d (omega (arith, few)) (same ∙ sym (ap (λ x. x.clock) (behind k d))));
}
  where
    behind : (k : ℕ) (d : Entry) → slice_index_or (e ∷ es) (suc k + 1) d ≡ slice_index_or es (k + 1) d
    behind k d = ap (λ i. slice_index_or (e ∷ es) i d) (one_more k)
      where
        one_more : (k : ℕ) → suc k + 1 ≡ suc (k + 1)
        one_more k = omega arith

all_after_first : (e : Entry) (es : List Entry) → AreInOrder (e ∷ es) → AllByRecursion (NotAfter e) es
all_after_first e [] order = tt
all_after_first e (x ∷ es) order =
    let next : NotAfter e x = record { clocks = order.clocks 0 1 e (omega arith) (omega arith); nodes = λ same. order.nodes 0 e (omega arith) same } in
    (next, all_weaker (NotAfter x) (NotAfter e) (λ y later. not_after_both e x y next later) es (all_after_first x es (in_order_behind e (x ∷ es) order)))

-- each is before all after it
abbrev IsStrict : List Entry → Type 0
IsStrict [] = Unit {0}
IsStrict (e ∷ es) = AllByRecursion (Before e) es × IsStrict es

all_before : (e : Entry) (es : List Entry) → sum_by (at e.clock (node_of e)) es ≡ 0 → AllByRecursion (NotAfter e) es → AllByRecursion (Before e) es
all_before e [] none all = tt
all_before e (x ∷ es) none all = (first, all_before e es (omega (arith, none, sum_by-cons (at e.clock (node_of e)) x es)) all.1)
  where
    other : at e.clock (node_of e) x ≡ 0
    other = omega (arith, none, sum_by-cons (at e.clock (node_of e)) x es)

    lower : e.clock ≡ x.clock → node_of e < node_of x
    lower same = elim (eqb_tells (node_of e) (node_of x)) [
      | inl its ↦ absurd (omega (arith, other, at_own e.clock (node_of e) x same its.1))
      | inr not ↦ omega (arith, not.1, all.0.nodes same)
    ]

    first : Before e x
    first = record { clocks = all.0.clocks; nodes = lower }

strict_where_once : (es : List Entry) → AreInOrder es → ((clock number : ℕ) → sum_by (at clock number) es ≤ 1) → IsStrict es
strict_where_once [] order once = tt
strict_where_once (e ∷ es) order once = (
  all_before e es (omega (arith, once e.clock (node_of e), sum_by-cons (at e.clock (node_of e)) e es, at_own e.clock (node_of e) e refl refl)) (all_after_first e es order),
  strict_where_once es (in_order_behind e es order) (λ clock number. omega (arith, once clock number, sum_by-cons (at clock number) e es)),
)

-- ---- two strict lists with the same entries
abbrev In : Entry → List Entry → Type 0
In x [] = ⊥
In x (y ∷ ys) = (x ≡ y) ⊎ In x ys

in_self : (es : List Entry) → AllByRecursion (λ x. In x es) es
in_self [] = tt
in_self (e ∷ es) = (inl refl, all_weaker (λ x. In x es) (λ x. In x (e ∷ es)) (λ x its. inr its) es (in_self es))

all_in : (P : Entry → Type 0) (es : List Entry) (x : Entry) → AllByRecursion P es → In x es → P x
all_in P [] x all its = absurd its
all_in P (e ∷ es) x all (inl same) = subst P (sym same) all.0
all_in P (e ∷ es) x all (inr its) = all_in P es x all.1 its

-- those after the first stand in the rest
in_rest : (a l : Entry) (us ls : List Entry) → AllByRecursion (Before a) us → NotAfter l a → AllByRecursion (λ x. In x (l ∷ ls)) us → AllByRecursion (λ x. In x ls) us
in_rest a l [] ls later first all = tt
in_rest a l (x ∷ us) ls later first all = (by all.0, in_rest a l us ls later.1 first all.1)
  where
    by : In x (l ∷ ls) → In x ls
    by (inl same) = absurd (not_both a l (subst (Before a) same later.0) first)
    by (inr its) = its

self_not_after : (a l : Entry) → a ≡ l → NotAfter l a
self_not_after a l same = subst (λ x. NotAfter x a) same (record { clocks = omega arith; nodes = λ _. omega arith })

no_longer : (us ls : List Entry) → IsStrict us → IsStrict ls → AllByRecursion (λ x. In x ls) us → length us ≤ length ls
no_longer [] ls strict other all = omega arith
no_longer (a ∷ us) [] strict other all = absurd all.0
no_longer (a ∷ us) (l ∷ ls) strict other all = by all.0 (λ rest. no_longer us ls strict.1 other.1 rest) (λ rest. no_longer (a ∷ us) ls strict other.1 rest)
  where
    by : In a (l ∷ ls) → (AllByRecursion (λ x. In x ls) us → length us ≤ length ls) → (AllByRecursion (λ x. In x ls) (a ∷ us) → length (a ∷ us) ≤ length ls) → length (a ∷ us) ≤ length (l ∷ ls)
    by (inl same) shorter longer = omega (arith, shorter (in_rest a l us ls strict.0 (self_not_after a l same) all.1))
    by (inr its) shorter longer = omega (arith, longer (its, in_rest a l us ls strict.0 (not_after l a (all_in (Before l) ls a other.0 its)) all.1))

same_list : (us ls : List Entry) → IsStrict us → IsStrict ls → AllByRecursion (λ x. In x ls) us → length us ≡ length ls → us ≡ ls
same_list [] [] strict other all many = refl
same_list [] (l ∷ ls) strict other all many = absurd (omega (arith, many))
same_list (a ∷ us) [] strict other all many = absurd all.0
same_list (a ∷ us) (l ∷ ls) strict other all many = by all.0 (λ rest. same_list us ls strict.1 other.1 rest (omega (arith, many)))
  where
    by : In a (l ∷ ls) → (AllByRecursion (λ x. In x ls) us → us ≡ ls) → a ∷ us ≡ l ∷ ls
    by (inl same) then = ap (λ e. e ∷ us) same ∙ ap (λ list. l ∷ list) (then (in_rest a l us ls strict.0 (self_not_after a l same) all.1))
    by (inr its) then = absurd (omega (
      arith,
      many,
      no_longer (a ∷ us) ls strict other.1
          (its, in_rest a l us ls strict.0 (not_after l a (all_in (Before l) ls a other.0 its)) all.1),
    ))

-- ---- the one list
strict_merged : (logs : List Log) (es : List Entry) → AllKeep logs → AreOfDifferentNodes logs → IsMerged logs es → IsStrict es
strict_merged logs es keep different merged = strict_where_once es merged.order (λ clock number.
    omega (arith, sum_by-IsPermutation (at clock number) (entries_of_all logs) es merged.all, once_in_all clock number logs keep different))

pub the_merged : (logs : List Log) (es : List Entry) → AllKeep logs → IsMerged logs es → AreOfDifferentNodes logs → IsTheMerged logs es
the_merged logs es keep merged different other also =
    let moved : IsPermutation es other = IsPermutation-trans es (entries_of_all logs) other (IsPermutation-sym (entries_of_all logs) es merged.all) also.all in
    let members : AllByRecursion (λ x. In x es) other = recursion_from_All (λ x. In x es) other
    (All-permutation (λ x. In x es) es other moved (All-from_recursion (λ x. In x es) es (in_self es))) in
    same_list other es (strict_merged logs other keep different also) (strict_merged logs es keep different merged) members (length_permutation es other moved)
