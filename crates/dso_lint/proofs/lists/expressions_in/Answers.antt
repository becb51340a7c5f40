use Rattle.std.proofs.Common.{rules, ◌≡◌, [], subst}
use Rattle.std.proofs.lemmas.List.{take_all}
use Rattle.dso_lint.specs.Lists.{Adds}
use Rattle.dso_lint.proofs.standing.Additions.{OfOne, Does, adds_of_more, adds_uses}
use Rattle.dso_lint.proofs.lists.expressions_in.Goals as goal

pub loop-a-preserved : goal.loop-a-preserved
loop-a-preserved c =
    adds_of_more Does c.args.statements.now c.loop-a.a-index c.a-item.result c.loop-a-test.true c.new-list.result.items c.loop-a.list.items c.add_evaluated.new.list.items c.loop-a.invariant
    (subst (λ a. Adds (λ e. Does e a) c.loop-a.list.items c.add_evaluated.new.list.items) c.a-item.is c.in_ok-add_evaluated.ensures)

pub returns : goal.returns
returns c block lists =
    let empty : c.new-list.result.items ≡ [] = search rules in
    adds_uses block c.args.statements.now c.new-list.result.items c.loop-a.list.items lists empty
    (subst (λ ss. Adds (OfOne Does ss) c.new-list.result.items c.loop-a.list.items) (take_all c.loop-a.a-index c.args.statements.now c.loop-a-test.false) c.loop-a.invariant)
