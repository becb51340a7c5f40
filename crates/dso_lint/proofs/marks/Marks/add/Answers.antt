use Rattle.std.proofs.Common.{◌<◌, arith, false, length, refl, sym, ◌∙◌}
use Rattle.std.proofs.lemmas.Grind.{common_steps}
use Rattle.std.proofs.lemmas.List.{get_or_read}
use Rattle.dso_lint.proofs.calling.MarkSteps.{marks_one}
use Rattle.dso_lint.proofs.marks.Marks.add.Goals as goal

pub returns : goal.returns
returns c =
    let low : c.args.number < length c.args.self.now.marked.items = grind (arith, common_steps) in
    marks_one c.args.self.now _ c.args.number low (sym (get_or_read c.args.self.now.marked.items c.args.number _ low c.index.ensures false) ∙ c.if-index.false) refl c.in_ok-push.ensures.items
