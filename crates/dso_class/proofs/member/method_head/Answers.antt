use Rattle.std.proofs.Common.{refl}
use Rattle.dso_class.proofs.rules.ComposingItems as judging
use Rattle.dso_class.proofs.walks.MethodItems as laws
use Rattle.dso_class.specs.Heads.{word_of}
use Rattle.dso_class.specs.Mentions.{on, method}
use Rattle.std.proofs.Common.{[], ◌∷◌}
use Rattle.dso_class.proofs.member.method_head.Goals as goal

pub returns-in_err-monitor : goal.returns-in_err-monitor
returns-in_err-monitor c source before same met =
    judging.passed_on source before _ _ c.from_residual.result c.in_err-monitor.field-0.0 c.from_residual.ensures
    (judging.told_front source before (word_of c.args.class.now.name.now c.args.line c.args.synced c.args.name.now) (on c.args.name.now.line (method c.args.name.now.name) ∷ []) c.in_err-monitor.field-0.0
    (c.in_err-monitor.ensures source before same))

pub returns-in_err-declare : goal.returns-in_err-declare
returns-in_err-declare c source before same met =
    judging.passed_on source before _ _ c.from_residual-in_err-declare.result c.in_err-declare.field-0.0 c.from_residual-in_err-declare.ensures
    (laws.head_refused source before c.args.class.now c.args.line c.args.synced c.args.name.now _ met (c.in_ok-monitor.ensures source before same) c.in_err-declare.field-0.0 c.in_err-declare.ensures.refused)

pub returns : goal.returns
returns c source before same met =
    laws.head_right source before c.args.class.now c.args.line c.args.synced c.args.name.now _ c.declare.new.names _ met (c.in_ok-monitor.ensures source before same)
    c.in_ok-declare.ensures.fresh c.in_ok-declare.ensures.few c.in_ok-declare.ensures.named refl
