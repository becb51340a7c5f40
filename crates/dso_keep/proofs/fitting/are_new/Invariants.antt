use Rattle.std.proofs.Common.{take}
use Rattle.std.specs.List.{AllByRecursion}
use Rattle.dso_store.specs.Graph.{body_in}
use Rattle.dso_keep.specs.Records.{IsNewObject}
use Rattle.dso_keep.proofs.fitting.are_new.Given as goal

abbrev pub invariant-loop-body : goal.invariant-loop-body
invariant-loop-body l = AllByRecursion (IsNewObject l.shape (body_in l.store) l.news) (take l.body-index l.bodies)
