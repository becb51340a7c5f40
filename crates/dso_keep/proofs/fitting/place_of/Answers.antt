use Rattle.std.proofs.Common.{arith, ltb, rules}
use Rattle.std.proofs.lemmas.Bool.Decides.{nat_tests}
use Rattle.std.proofs.lemmas.List.Sorted.{IsPartitionedBy-ltb, IsPartitionPoint-from_clause}
use Rattle.dso_keep.proofs.lists.News.{non_decreasing}
use Rattle.dso_keep.proofs.fitting.place_of.Goals as goal

pub returns : goal.returns
returns c =
    let point = IsPartitionPoint-from_clause (λ body. ltb body.object c.args.object) c.args.news.now c.partition_point.result c.partition_point.ensures.partitioned (IsPartitionedBy-ltb (λ body. body.object) c.args.news.now c.args.object (non_decreasing c.args.news.now c.requires)) (λ a r f t. search rules) in
    (λ k d le less. grind (arith, nat_tests, point.0 k d le less), λ k d le less. grind (arith, nat_tests, point.1 k d le less))
