use Rattle.dso_class.proofs.rules.ComposingItems as judging
use Rattle.dso_class.proofs.walks.Items as laws
use Rattle.dso_class.proofs.member.class_members.Goals as goal

pub loop-member-init : goal.loop-member-init
loop-member-init c = laws.members_none c.args.setting.now c.args.members.now c.args.resolved.now c.args.class.now

pub returns-in_err-class_member : goal.returns-in_err-class_member
returns-in_err-class_member c source before set met class_met =
    judging.passed_on source before _ _ c.from_residual.result c.in_err-class_member.field-0.0 c.from_residual.ensures
    (laws.members_end c.args.setting.now c.args.members.now c.loop-member.member-index c.member-item.result c.args.resolved.now c.loop-member.resolved c.class_member.new.resolved c.args.class.now c.loop-member.class c.class_member.new.class
    c.loop-member-test.true c.member-item.is c.loop-member.invariant c.in_err-class_member.field-0.0 c.in_err-class_member.ensures source before set met class_met)

pub loop-member-preserved : goal.loop-member-preserved
loop-member-preserved c =
    laws.members_more c.args.setting.now c.args.members.now c.loop-member.member-index c.member-item.result c.args.resolved.now c.loop-member.resolved c.class_member.new.resolved c.args.class.now c.loop-member.class c.class_member.new.class
    c.loop-member-test.true c.member-item.is c.loop-member.invariant c.in_ok-class_member.ensures

pub returns : goal.returns
returns c = laws.members_all c.args.setting.now c.args.members.now c.loop-member.member-index c.args.resolved.now c.loop-member.resolved c.args.class.now c.loop-member.class c.loop-member-test.false c.loop-member.invariant
