use Rattle.std.proofs.Common.{rules, ◌≡◌, [], arith}
use Rattle.dso_lookup.specs.Search.{reference_in, with_all_found}
use Rattle.dso_lookup.proofs.Searching.{search_begins, searched_next, search_ends, searched_all}
use Rattle.dso_lookup.proofs.search.reached_from.Goals as goal

pub loop-next-init : goal.loop-next-init
loop-next-init g c =
    let first : c.in_ok-first.first.items ≡ reference_in c.args.value = search rules in
    let begun : c.add_all_found.new.found.items ≡ with_all_found (g.P.PrivateObjects.mine c.args.privates.now) c.in_ok-first.first.items [] = search rules in
    (search_begins (g.P.PrivateObjects.mine c.args.privates.now) (g.P.PrivateObjects.objects c.args.privates.now) (g.met.P.PrivateObjects.listed c.args.privates.now) (g.P.PrivateObjects.names c.args.privates.now) c.args.value c.in_ok-first.first.items c.add_all_found.new.found.items first begun, c.in_ok-add_all_found.ensures.seen)

pub loop-next-smaller : goal.loop-next-smaller
loop-next-smaller g c = search_ends (g.P.PrivateObjects.mine c.args.privates.now) (g.P.PrivateObjects.objects c.args.privates.now) (g.met.P.PrivateObjects.listed c.args.privates.now) (g.P.PrivateObjects.names c.args.privates.now) c.args.value c.loop-next.found.items c.look_at.new.found.items c.loop-next.next c.index-object.result.now c.loop-next.invariant.0 (omega arith) c.in_ok-look_at.ensures.found

pub loop-next-preserved : goal.loop-next-preserved
loop-next-preserved g c = (searched_next (g.P.PrivateObjects.mine c.args.privates.now) (g.P.PrivateObjects.objects c.args.privates.now) (g.met.P.PrivateObjects.listed c.args.privates.now) (g.P.PrivateObjects.names c.args.privates.now) c.args.value c.loop-next.found.items c.look_at.new.found.items c.loop-next.next c.index-object.result.now c.loop-next.invariant.0 (omega arith) c.index-object.ensures c.in_ok-look_at.ensures.found, c.in_ok-look_at.ensures.seen)

pub returns : goal.returns
returns g c = searched_all (g.P.PrivateObjects.mine c.args.privates.now) (g.P.PrivateObjects.objects c.args.privates.now) (g.met.P.PrivateObjects.listed c.args.privates.now) (g.P.PrivateObjects.names c.args.privates.now) c.args.value c.loop-next.found.items c.loop-next.next c.loop-next.seen c.loop-next.invariant.0 (omega arith) c.loop-next.invariant.1
