use Rattle.std.proofs.Common.{subst, sym, [], ◌∷◌}
use Rattle.dso_class.specs.Mentions.{of_member}
use Rattle.dso_class.specs.TextWalk.{AreMembersRight, Gives, IsToldOf}
use Rattle.dso_class.proofs.rules.ComposingItems as judging
use Rattle.dso_class.proofs.walks.MethodItems as laws
use Rattle.dso_class.proofs.walks.MethodItems.{IsMade, IsWalked}
use Rattle.dso_class.proofs.member.class_member.Goals as goal

pub returns-in-Field : goal.returns-in-Field
returns-in-Field c source before set met class_met =
    let old = c.args.resolved.now in
    let class = c.args.class.now in
    subst (λ m. Gives source before (of_member class.name.now m) (λ (done : Unit {0}). AreMembersRight source before (of_member class.name.now m) (m ∷ []) old old class c.field.new.class) c.field.result) (sym c.in-Field.is)
    (c.field.ensures c.in-Field.line old source before set met class_met)

pub returns-in_err-monitor-in-Method : goal.returns-in_err-monitor-in-Method
returns-in_err-monitor-in-Method c source before set met class_met =
    let m = c.in-Method in
    let class = c.args.class.now in
    let e = c.in_err-monitor-in-Method.field-0.0 in
    judging.passed_on source before _ _ c.from_residual.result e c.from_residual.ensures
    (subst (λ one. IsToldOf source before (of_member class.name.now one) e) (sym m.is)
    (laws.told_of_head source before class.name.now m.line m.synced m.name m.params m.body e (c.in_err-monitor-in-Method.ensures source before set.config class_met)))

pub returns-in_err-body-in-Method : goal.returns-in_err-body-in-Method
returns-in_err-body-in-Method c source before set met class_met =
    let m = c.in-Method in
    let class = c.args.class.now in
    let now = c.method_head.new.class in
    let e = c.in_err-body-in-Method.field-0.0 in
    let head = c.in_ok-monitor-in-Method.ensures source before set.config class_met in
    let walked : IsWalked source before c.args.member.now class now c.in_ok-monitor-in-Method.monitor =
    record { line = m.line; synced = m.synced; name = m.name; params = m.params; statements = m.body; is = m.is; head = head } in
    judging.passed_on source before _ _ c.from_residual-in_err-body-in-Method.result e c.from_residual-in_err-body-in-Method.ensures
    (laws.told_of_method source before c.args.member.now c.args.resolved.now class now c.in_ok-monitor-in-Method.monitor walked c.as_slice.result.now c.as_slice-in-Method.result.now c.method_body.new.texts e c.as_slice.ensures c.as_slice-in-Method.ensures
    (c.in_err-body-in-Method.ensures.right source _ set (laws.body_begins before class.name.now m.line m.synced m.name) (laws.texts_met before class.name.now m.line m.synced m.name met)))

pub returns-in_ok-push-in-Method : goal.returns-in_ok-push-in-Method
returns-in_ok-push-in-Method c source before set met class_met =
    let m = c.in-Method in
    let class = c.args.class.now in
    let now = c.method_head.new.class in
    let head = c.in_ok-monitor-in-Method.ensures source before set.config class_met in
    let walked : IsWalked source before c.args.member.now class now c.in_ok-monitor-in-Method.monitor =
    record { line = m.line; synced = m.synced; name = m.name; params = m.params; statements = m.body; is = m.is; head = head } in
    let made = c.method-method in
    let is : IsMade now c.as_slice.result.now c.in_ok-monitor-in-Method.monitor c.in_ok-body-in-Method.body made.result =
    record { class = made.ensures.class; params = made.ensures.params; vars = made.ensures.vars; synced = made.ensures.synced; body = made.ensures.body } in
    laws.method_there source before c.args.member.now c.args.resolved.now class now c.in_ok-monitor-in-Method.monitor walked c.as_slice.result.now c.as_slice.result.now c.as_slice-in-Method.result.now
    c.method_body.new.texts c.in_ok-body-in-Method.body c.push.new.self made.result c.as_slice.ensures c.as_slice-in-Method.ensures c.as_slice.ensures met
    (c.in_ok-body-in-Method.ensures.right source _ set (laws.body_begins before class.name.now m.line m.synced m.name) (laws.texts_met before class.name.now m.line m.synced m.name met))
    is (λ fine. made.ensures.lock source set fine) c.in_ok-push-in-Method.ensures.ok
