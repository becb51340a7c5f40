use Rattle.dso_class.proofs.rules.ComposingItems as judging
use Rattle.dso_class.proofs.walks.MemberItems as laws
use Rattle.dso_class.proofs.rules.MetBefore.{field_ruled}
use Rattle.dso_class.proofs.member.field.Goals as goal

pub returns-in_err-declare : goal.returns-in_err-declare
returns-in_err-declare c line resolved source before set met class_met =
    judging.passed_on source before _ _ c.from_residual.result c.in_err-declare.field-0.0 c.from_residual.ensures
    (judging.told_refused source before c.args.name.now.line _ c.in_err-declare.field-0.0 (field_ruled c.args.name.now.name c.len-count.result class_met c.len-count.ensures) c.in_err-declare.ensures.refused)

pub returns : goal.returns
returns c line resolved source before set met class_met =
    laws.field_right source c.args.setting.now before resolved c.args.class.now c.args.name.now line c.args.kind c.len-count.result c.declare.new.names c.push.new.self c.guard_of-guard.result
    set met class_met c.len-count.ensures c.in_ok-declare.ensures.fresh c.in_ok-declare.ensures.few c.in_ok-declare.ensures.named c.in_ok-push.ensures.ok c.guard_of-guard.ensures
