use Rattle.std.proofs.Common.{length}
use Rattle.dso_class.proofs.body.+know_all.Given as goal

-- there is one parameter less
abbrev pub decreases-know_all : goal.decreases-know_all
decreases-know_all l = length l.params.now
