use Rattle.std.specs.Prelude.{IsPermutation}
use Rattle.std.proofs.Common.{subst}
use Rattle.std.proofs.lemmas.List.Sorted.{IsNonDecreasingBy-from_sort}
use Rattle.dso_server.proofs.triggers.in_order.Goals as goal

pub returns : goal.returns
returns c = record {
  all = subst (λ list. IsPermutation list c.sort_unstable.new.self.items) c.in_ok-numbers.ensures c.sort_unstable.ensures.permutation;
  rising = IsNonDecreasingBy-from_sort (λ n. n) c.sort_unstable.new.self.items c.sort_unstable.ensures.sorted;
}
