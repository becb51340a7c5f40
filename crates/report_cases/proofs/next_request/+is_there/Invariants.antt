use Rattle.std.proofs.Common.{length}
use Rattle.report_cases.proofs.next_request.+is_there.Given as goal

-- fewer are left each time
abbrev pub decreases-is_there : goal.decreases-is_there
decreases-is_there l = length l.bodies.now
