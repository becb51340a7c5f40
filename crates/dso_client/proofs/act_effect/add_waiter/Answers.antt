use Rattle.std.proofs.Common.{◌≡◌, ap, subst, ◌∙◌, Some, [], ◌∷◌, ◌++◌}
use Rattle.std.specs.BTreeMap.{is_at}
use Rattle.dso_lookup.specs.Maps.{look, writes, written}
use Rattle.dso_lookup.specs.Orders.{lock_order}
use Rattle.dso_client.specs.ActEffects.{HasList}
use Rattle.dso_client.specs.LockStateStands.{list_at}
use Rattle.dso_client.proofs.replies.Outcomes.{on_ok}
use Rattle.dso_client.proofs.applied.Lists.{list_put}
use Rattle.dso_client.proofs.act_effect.add_waiter.Goals as goal

pub returns : goal.returns
returns c =
    let l = c.args.lock in
    let old = c.args.lists.now in
    let mid = c.take_list-list.new.lists in
    let new = c.put.new.map in
    let list = c.add.new.self in
    let all = c.in_ok-add.ensures.ok ∙ ap (λ threads. threads ++ c.args.thread ∷ []) c.take_list-list.ensures.list in
    on_ok c.put.result (look lock_order new ≡ written (writes (is_at (lock_order l)) (λ _. Some list)) (look lock_order mid)) (HasList l (list_at old l ++ c.args.thread ∷ []) old new)
    (λ is. subst (λ list. HasList l list old new) all (list_put l list old mid new c.take_list-list.ensures.gone is)) c.put.ensures
