use Rattle.dso_lookup.proofs.ListChanges.{list_pushed}
use Rattle.dso_lookup.proofs.lists.push_at.Goals as goal

pub returns : goal.returns
returns g c = list_pushed g.K.Ord.cmp c.args.map.now c.take_items-items.new.map c.put.new.map c.take_items-items.result c.push.new.self c.args.key c.args.value c.take_items-items.ensures.items c.take_items-items.ensures.gone c.in_ok-push.ensures.ok c.in_ok-put.ensures
