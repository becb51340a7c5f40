use Rattle.std.proofs.Common.{take}
use Rattle.std.specs.List.{AllByRecursion}
use Rattle.dso_law.specs.FitsDown.{FitsChange}
use Rattle.dso_client.specs.RunPoints.{RunPoint}
use Rattle.dso_client.specs.TableStands.{TableStands}
use Rattle.dso_client.proofs.message_fit.fit_changes.Given as goal

abbrev pub invariant-loop-set : goal.invariant-loop-set
invariant-loop-set l = (at : RunPoint) → TableStands at l.table → AllByRecursion (FitsChange l.shape at.entries) (take l.set-index l.sets)
