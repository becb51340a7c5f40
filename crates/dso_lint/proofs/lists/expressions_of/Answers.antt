use Rattle.std.proofs.Common.{rules, ◌≡◌, []}
use Rattle.dso_lint.specs.Trees.{Evaluates}
use Rattle.dso_lint.proofs.standing.Listing.{adds_to_empty}
use Rattle.dso_lint.proofs.lists.expressions_of.Goals as goal

pub returns : goal.returns
returns c =
    let empty : c.new-list.result.items ≡ [] = search rules in
    adds_to_empty (Evaluates c.args.a.now) c.new-list.result.items c.add_evaluated.new.list.items empty c.in_ok-add_evaluated.ensures
