use Rattle.dso_table.proofs.objects.LookedAt.{AreLeft}
use Rattle.dso_table.proofs.victim.least_unused.Given as goal

abbrev pub invariant-loop-object : goal.invariant-loop-object
invariant-loop-object l = AreLeft l.tables l.object-iterator
