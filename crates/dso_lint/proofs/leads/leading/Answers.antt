use Rattle.std.proofs.Common.{◌≤◌, refl, arith, length}
use Rattle.dso_lint.specs.Leads.{Within}
use Rattle.dso_lint.proofs.calling.Leading.{found_fit, leads_begun, leads_end}
use Rattle.dso_lint.proofs.leads.leading.Goals as goal

pub loop-next-init : goal.loop-next-init
loop-next-init c code are few tidy =
    let begun = c.args.begun.marked.items in
    leads_begun code (Within begun) (length begun) c.args.begun tidy refl (λ m is. is) (λ m is. is)

pub loop-next-preserved : goal.loop-next-preserved
loop-next-preserved c code are few tidy =
    let begun = c.args.begun.marked.items in
    c.in_ok-look_back.ensures code begun (length begun) are (c.loop-next.invariant code are few tidy)

pub returns : goal.returns
returns c code are few tidy =
    let begun = c.args.begun.marked.items in
    let so = c.loop-next.invariant code are few tidy in
    let marks = c.loop-next.marks in
    let fit = found_fit marks so.tidy in
    let whole : length marks.found.items ≤ c.loop-next.next = omega (arith, fit, so.number, c.loop-next-test.false, c.len-next-end.ensures) in
    leads_end code (Within begun) (length begun) c.loop-next.next marks so whole few
