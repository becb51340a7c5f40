use Rattle.std.proofs.Common.{refl, sym, ◌∙◌}
use Rattle.std.proofs.lemmas.Bool.{false≢true}
use Rattle.dso_class.proofs.rules.ComposingItems as judging
use Rattle.dso_class.proofs.walks.MemberItems as laws
use Rattle.dso_class.proofs.member.static_field.Goals as goal

pub returns-then-not-is_root : goal.returns-then-not-is_root
returns-then-not-is_root c source before set met class_met =
    laws.not_root source c.args.setting.now before c.args.class.now c.args.name.now c.args.line set (λ is. false≢true (sym c.if-not-is_root.true ∙ c.is_root.ensures.1 is))

pub returns-in_err-declare : goal.returns-in_err-declare
returns-in_err-declare c source before set met class_met =
    judging.passed_on source before _ _ c.from_residual.result c.in_err-declare.field-0.0 c.from_residual.ensures
    (laws.static_refused source c.args.setting.now before c.args.resolved.now c.args.class.now c.args.name.now c.args.line set met class_met (c.is_root.ensures.0 c.if-not-is_root.false) c.in_err-declare.field-0.0 c.in_err-declare.ensures.refused)

pub returns : goal.returns
returns c source before set met class_met =
    laws.static_right source c.args.setting.now before c.args.resolved.now c.args.class.now c.args.name.now c.args.line c.declare.new.names _
    set met class_met (c.is_root.ensures.0 c.if-not-is_root.false) c.in_ok-declare.ensures.fresh c.in_ok-declare.ensures.few c.in_ok-declare.ensures.named refl
