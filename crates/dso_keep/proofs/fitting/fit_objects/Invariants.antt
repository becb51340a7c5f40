use Rattle.std.proofs.Common.{take}
use Rattle.std.specs.List.{AllByRecursion}
use Rattle.dso_store.specs.Graph.{body_in}
use Rattle.dso_keep.specs.Records.{FitsObject}
use Rattle.dso_keep.proofs.fitting.fit_objects.Given as goal

abbrev pub invariant-loop-set : goal.invariant-loop-set
invariant-loop-set l = AllByRecursion (FitsObject l.shape (body_in l.store) l.news) (take l.set-index l.sets)
