use Rattle.std.proofs.Common.{◌≡◌, arith, get_or, sym, subst}
use Rattle.std.proofs.lemmas.Grind.{common_steps}
use Rattle.std.proofs.lemmas.Result.{on_ok_weaker}
use Rattle.dso_lint.specs.CleanRows.{IsSettledRow, MarksExposed}
use Rattle.dso_lint.specs.Lists.{Lists}
use Rattle.dso_lint.specs.Trees.{StandsIn}
use Rattle.dso_lint.proofs.cleanness.EachRow.{wait_settled}
use Rattle.dso_lint.proofs.cleanness.Looks.{looks_at}
use Rattle.dso_lint.proofs.rows.look.Goals as goal

pub returns-clause-wait : goal.returns-clause-wait
returns-clause-wait c =
    let old = c.args.rows.now.items in
    let k = c.args.number in
    let own = c.index_mut.result.now in
    let here : get_or old k own ≡ own = grind (arith, common_steps) in
    let kept : c.settle.new.row.this ≡ (get_or old k own).this = subst (λ row. c.settle.new.row.this ≡ row.this) (sym here) c.settle.ensures.this in
    on_ok_weaker c.strip.result (λ strips. wait_settled old c.strip.new.rows.items k c.settle.new.row own c.args.waiting.now.items c.strip.new.waiting.items c.requires kept strips.wait) c.strip.ensures

pub returns-clause-looks : goal.returns-clause-looks
returns-clause-looks c routine is =
    let old = c.args.rows.now.items in
    let k = c.args.number in
    let own = c.index_mut.result.now in
    let row = c.settle.new.row in
    let here : get_or old k own ≡ own = grind (arith, common_steps) in
    let settled : IsSettledRow routine own row = record {
      this = c.settle.ensures.this;
      number = c.settle.ensures.number;
      below = c.settle.ensures.below;
      right = c.settle.ensures.right routine.statements (subst (Lists (λ a. StandsIn a routine.statements)) (sym c.as_slice.ensures.value) is.statements);
    } in
    let its : c.index.result.now ≡ row = grind (arith, common_steps) in
    let exposed : MarksExposed routine row c.args.methods c.in_ok-marks.marks = subst (λ r. MarksExposed routine r c.args.methods c.in_ok-marks.marks) its (c.in_ok-marks.ensures routine is) in
    on_ok_weaker c.strip.result (λ strips. looks_at routine c.args.methods k old c.strip.new.rows.items row own c.args.waiting.now.items c.strip.new.waiting.items c.in_ok-marks.marks c.requires here settled exposed strips) c.strip.ensures
