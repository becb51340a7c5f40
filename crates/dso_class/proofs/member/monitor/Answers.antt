use Rattle.dso_class.proofs.walks.MethodItems as laws
use Rattle.dso_class.proofs.member.monitor.Goals as goal

pub returns-in-Some : goal.returns-in-Some
returns-in-Some c source before same =
    laws.monitor_right source before c.args.config.now c.args.class.now c.args.line c.args.synced c.args.name.now c.in-Some.grade same c.if-not-synced.false c.in-Some.ensures

pub returns-in-None : goal.returns-in-None
returns-in-None c source before same =
    laws.monitor_missing source before c.args.config.now c.args.class.now c.args.line c.args.synced c.args.name.now same c.if-not-synced.false c.in-None.ensures
