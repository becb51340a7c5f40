use Rattle.dso_base.specs.declared.both.Both.{Both}
use Rattle.dso_session.specs.declared.session.Posted.{Posted}
use Rattle.dso_world.specs.Collections.{message_names}
use Rattle.dso_world.proofs.collecting.Added.{one_more}
use Rattle.dso_world.proofs.message_names.add_posts.Goals as goal

pub loop-posted-preserved : goal.loop-posted-preserved
loop-posted-preserved c = one_more (λ o (posted : Posted Both). message_names posted.message o) c.args.posts.now c.loop-posted.posted-index c.posted-item.result
    c.args.into.now.items c.loop-posted.into.items c.add_message.new.into.items c.loop-posted-test.true c.posted-item.is c.loop-posted.invariant c.in_ok-add_message.ensures
