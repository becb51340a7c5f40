use Rattle.std.proofs.Common.{◌∙◌, sym}
use Rattle.dso_store.specs.Graph.{holds_by}
use Rattle.dso_store.proofs.HoldersWritten.{held_next, held_all}
use Rattle.dso_store.proofs.holders.add_all.Goals as goal

pub loop-body-preserved : goal.loop-body-preserved
loop-body-preserved c = held_next c.args.client c.args.news.now c.body-item.result c.loop-body.body-index (holds_by c.loop-body.holders) (holds_by c.add_holder.new.holders) c.loop-body-test.true c.body-item.is c.in_ok-add_holder.ensures ∙ c.loop-body.invariant

pub returns : goal.returns
returns c = sym (held_all c.args.client c.args.news.now c.loop-body.body-index (holds_by c.loop-body.holders) c.loop-body-test.false) ∙ c.loop-body.invariant
