use Rattle.std.proofs.Common.{◌++◌}
use Rattle.std.specs.List.{list_any}
use Rattle.dso_base.specs.declared.both.Both.{Both}
use Rattle.dso_session.specs.declared.session.Posted.{Posted}
use Rattle.dso_txn.specs.NamedInHand.{AddsNamed}
use Rattle.dso_world.specs.Collections.{message_names, posts_name}
use Rattle.dso_world.proofs.collecting.Added.{ok_then, posts_added}
use Rattle.dso_world.proofs.message_names.add_both_parts.Goals as goal

pub returns : goal.returns
returns c = ok_then c.add_posts-2.result
    (AddsNamed (λ o. list_any (λ (posted : Posted Both). message_names posted.message o) c.args.second.now) c.add_posts.new.into.items c.add_posts-2.new.into.items)
    (AddsNamed (posts_name (c.args.first.now ++ c.args.second.now)) c.args.into.now.items c.add_posts-2.new.into.items)
    (posts_added c.args.first.now c.args.second.now c.args.into.now.items c.add_posts.new.into.items c.add_posts-2.new.into.items c.in_ok-add_posts.ensures)
    c.add_posts-2.ensures
