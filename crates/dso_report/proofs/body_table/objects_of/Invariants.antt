use Rattle.std.proofs.Common.{◌≡◌, take}
use Rattle.dso_report.proofs.bodies.Found.{objects_in}
use Rattle.dso_report.proofs.body_table.objects_of.Given as goal

abbrev pub invariant-loop-body : goal.invariant-loop-body
invariant-loop-body l = l.objects.keys ≡ objects_in (take l.body-index l.bodies)
