use Rattle.std.proofs.Common.{◌≡◌, Some, subst}
use Rattle.std.specs.BTreeMap.{is_at}
use Rattle.std.specs.Ordering.{nat_cmp}
use Rattle.dso_base.specs.Block.{opening_body}
use Rattle.dso_change.proofs.HandChanges.{body_made}
use Rattle.dso_lookup.specs.Maps.{look, writes, written}
use Rattle.dso_lookup.proofs.MapChanges.{changed_by}
use Rattle.dso_change.proofs.apply.make.Goals as goal

pub returns : goal.returns
returns c =
    let body = opening_body c.args.shape.now c.args.object.class c.args.object.size c.args.object.id in
    λ work same. body_made c.args.privates.now c.args.draft.now work same c.insert.new.self body
    (subst (λ b. look nat_cmp c.insert.new.self ≡ written (writes (is_at (nat_cmp c.args.object.id)) (λ _. Some b)) (look nat_cmp c.args.privates.now)) c.in_ok-body.ensures
    (changed_by nat_cmp c.args.privates.now c.insert.new.self c.args.object.id (Some c.in_ok-body.body) c.in_ok-insert.ensures.updates))
