use Rattle.std.proofs.Common.{subst}
use Rattle.dso_config_entries.proofs.lists.Last as laws
use Rattle.dso_config_entries.proofs.entries.autolock.Goals as goal

pub returns-in-Some-default : goal.returns-in-Some-default
returns-in-Some-default c = laws.autolock_spoken c.args.config.now c.args.class.now c.args.method.now c.in-Some-default.entries c.last_grade.result c.in-Some-default.is-0
    (subst (λ all. laws.Gives all c.args.class.now c.args.method.now c.last_grade.result) c.as_slice.ensures c.last_grade.ensures)

pub returns-in-None-Some : goal.returns-in-None-Some
returns-in-None-Some c = laws.autolock_named c.args.config.now c.args.class.now c.args.method.now c.in-None-Some.field-0-1 c.in-None-Some.is-0 c.in-None-Some.is-1

pub returns-in-None-None : goal.returns-in-None-None
returns-in-None-None c = laws.autolock_default c.args.config.now c.args.class.now c.args.method.now c.in-None-None.is-0 c.in-None-None.is-1
