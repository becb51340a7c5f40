use Rattle.std.proofs.Common.{rules, ◌≡◌, []}
use Rattle.dso_lint.specs.Trees.{StandsIn}
use Rattle.dso_lint.proofs.standing.Listing.{adds_to_empty}
use Rattle.dso_lint.proofs.lists.statements_in.Goals as goal

pub returns : goal.returns
returns c =
    let empty : c.new-list.result.items ≡ [] = search rules in
    adds_to_empty (λ a. StandsIn a c.args.block.now) c.new-list.result.items c.add_statements.new.list.items empty c.in_ok-add_statements.ensures
