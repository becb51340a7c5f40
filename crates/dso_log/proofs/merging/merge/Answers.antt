use Rattle.std.proofs.Common.{rules, ◌≡◌, subst, sym}
use Rattle.std.proofs.lemmas.Fn.{always_returns_same}
use Rattle.std.proofs.lemmas.List.Sorted.{IsNonDecreasingBy-from_sort_by_key, IsPermutation-trans, ties_still_rise}
use Rattle.std.specs.List.Sorted.{IsPermutation}
use Rattle.dso_log.specs.Merged.{AreInOrder, clock_of, node_of}
use Rattle.dso_log.proofs.OneList.{the_merged}
use Rattle.dso_log.proofs.merging.merge.Goals as goal

pub returns-clause-all : goal.returns-clause-all
returns-clause-all c = subst (λ xs. IsPermutation xs c.from_vec.result) c.in_ok-entries.ensures.entries
    (subst (IsPermutation _) (sym c.from_vec.ensures) (IsPermutation-trans _ _ _ c.in_ok-sort_by_key.ensures.permutation c.in_ok-sort_by_key-2.ensures.permutation))

pub returns-clause-order : goal.returns-clause-order
returns-clause-order c = subst AreInOrder (sym c.from_vec.ensures) (record {
  clocks = IsNonDecreasingBy-from_sort_by_key clock_of _ c.in_ok-sort_by_key-2.ensures.sorted (λ a r q k. search rules);
  nodes = ties_still_rise node_of clock_of _ _
      (c.in_ok-sort_by_key.ensures.sorted node_of (always_returns_same _ (λ a r. r ≡ node_of a.0.now) _ (λ a r q k. search rules)))
      (c.in_ok-sort_by_key-2.ensures.stable clock_of (always_returns_same _ (λ a r. r ≡ clock_of a.0.now) _ (λ a r q k. search rules)));
})

pub returns-clause-only : goal.returns-clause-only
returns-clause-only c = the_merged c.args.logs.items c.from_vec.result c.in_ok-entries.ensures.keep (record { all = returns-clause-all c; order = returns-clause-order c })
