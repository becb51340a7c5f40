use Rattle.std.proofs.Common.{length}
use Rattle.report_cases.proofs.script.+offer.Given as goal

-- fewer replies are left each time
abbrev pub decreases-offer : goal.decreases-offer
decreases-offer l = length l.replies.now
