use Rattle.std.proofs.Common.{◌∙◌}
use Rattle.dso_law.specs.ServerReadings.{is_reached}
use Rattle.dso_server.proofs.due.Reached.{any_is}
use Rattle.dso_server.proofs.triggers.is_any_passed.Goals as goal

pub returns : goal.returns
returns c client triggers are = c.is_passed.ensures client triggers are ∙ any_is (is_reached client c.args.taken) triggers
