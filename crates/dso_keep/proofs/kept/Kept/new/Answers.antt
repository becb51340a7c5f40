use Rattle.dso_keep.proofs.keeping.Whole.{none_whole}
use Rattle.dso_keep.proofs.kept.Kept.new.Goals as goal

pub returns-clause-whole : goal.returns-clause-whole
returns-clause-whole c = none_whole c.args.shape.now (record { records = c.new-2.result; store = c.in_ok-store.store }) c.new-2.ensures.items c.in_ok-store.ensures.bodies c.in_ok-store.ensures.last
