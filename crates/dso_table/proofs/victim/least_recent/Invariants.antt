use Rattle.std.specs.Map.{keys_of}
use Rattle.dso_table.proofs.objects.LookedAt.{AreLater}
use Rattle.dso_table.proofs.victim.least_recent.Given as goal

abbrev pub invariant-loop-object : goal.invariant-loop-object
invariant-loop-object l = AreLater l.tables (keys_of l.object-iterator.iter)
