use Rattle.std.proofs.Common.{refl, ◌∷◌}
use Rattle.dso_class.proofs.walks.ClassItems as laws
use Rattle.dso_class.proofs.walks.ClassItems.{named_on}
use Rattle.dso_class.proofs.rules.ComposingItems as judging
use Rattle.dso_class.proofs.class_item.whole_class.Goals as goal

pub returns-in_err-number : goal.returns-in_err-number
returns-in_err-number c line source before set met =
    let e = c.in_err-number.field-0.0 in
    judging.passed_on source before _ _ c.from_residual.result e c.from_residual.ensures
    (laws.told_of_name source before line c.args.name.now c.args.members.now e met c.in_err-number.ensures.refused)

pub returns-in_err-class_members : goal.returns-in_err-class_members
returns-in_err-class_members c line source before set met =
    let name = c.args.name.now in
    let e = c.in_err-class_members.field-0.0 in
    let fine = laws.name_fine source before name met c.in_ok-number.ensures.fresh c.in_ok-number.ensures.few in
    judging.passed_on source before _ _ c.from_residual-in_err-class_members.result e c.from_residual-in_err-class_members.ensures
    (laws.told_of_members source before line name c.args.members.now e fine
    (c.in_err-class_members.ensures source (named_on name ∷ before) set (laws.text_met_class before name c.class_name.new.names met c.in_ok-number.ensures.named)
    (laws.class_met_nothing before name _ c.new.ensures c.new-2.ensures refl)))

pub returns : goal.returns
returns c line source before set met =
    let name = c.args.name.now in
    let fine = laws.name_fine source before name met c.in_ok-number.ensures.fresh c.in_ok-number.ensures.few in
    laws.class_right source before line name c.args.members.now c.args.resolved.now _ c.class_members.new.resolved _ c.class_members.new.class c.push.new.self refl c.in_ok-number.ensures.named refl c.in_ok-number.ensures.number c.new-2.ensures fine
    (c.in_ok-class_members.ensures source (named_on name ∷ before) set (laws.text_met_class before name c.class_name.new.names met c.in_ok-number.ensures.named)
    (laws.class_met_nothing before name _ c.new.ensures c.new-2.ensures refl))
    c.in_ok-push.ensures.ok
