use Rattle.std.proofs.Common.{◌≡◌, ◌<◌, ◌≤◌, arith, false, length, get_or, sym, subst}
use Rattle.std.proofs.lemmas.Grind.{common_steps}
use Rattle.dso_lint.specs.Callers.{AddsCaller}
use Rattle.dso_lint.proofs.calling.CallerSteps.{callers_next, callers_whole}
use Rattle.dso_lint.proofs.callers.add_callers.Goals as goal

pub loop-called-preserved : goal.loop-called-preserved
loop-called-preserved c =
    let k = c.loop-called.called in
    let number = c.args.number in
    let marked = c.args.marks.now.marked.items in
    let low : k < length c.args.callers.now.items = grind (arith, common_steps) in
    let before = c.index_mut.result.now in
    let new = c.add_caller.new.called in
    let here : get_or c.loop-called.callers.items k before ≡ before = grind (arith, common_steps) in
    let adds : AddsCaller number (get_or marked k false) before new = subst (λ b. AddsCaller number b before new) c.has.ensures c.in_ok-add_caller.ensures in
    callers_next number marked k c.args.callers.now.items c.loop-called.callers.items new before low c.loop-called.invariant
    (subst (λ called. AddsCaller number (get_or marked k false) called new) (sym here) adds)

pub returns : goal.returns
returns c =
    let past : length c.args.callers.now.items ≤ c.loop-called.called = grind (arith, common_steps) in
    callers_whole c.args.number c.args.marks.now.marked.items c.loop-called.called c.args.callers.now.items c.loop-called.callers.items past c.loop-called.invariant
