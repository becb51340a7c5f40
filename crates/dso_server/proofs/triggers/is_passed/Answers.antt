use Rattle.dso_server.proofs.due.Reached.{found_tells, none_tells}
use Rattle.dso_server.proofs.triggers.is_passed.Goals as goal

pub returns-in-Some : goal.returns-in-Some
returns-in-Some c client triggers are = found_tells client c.args.taken c.args.made triggers c.args.numbers.now are c.in-Some.number.now c.in-Some.ensures.lookup.0 c.in-Some.ensures.lookup.1

pub returns-in-None : goal.returns-in-None
returns-in-None c client triggers are = none_tells client c.args.taken c.args.made triggers c.args.numbers.now are c.in-None.ensures.lookup.0
