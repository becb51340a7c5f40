use Rattle.std.proofs.Common.{rules, ◌≡◌, ◌∙◌, ap}
use Rattle.std.specs.BTreeMap.{IsOrdered}
use Rattle.std.specs.Ordering.{nat_cmp}
use Rattle.dso_lookup.specs.Search.{has_edge}
use Rattle.dso_store.specs.Collecting.{edges_of}
use Rattle.dso_store.proofs.Collected.{edge_of}
use Rattle.dso_store.proofs.collecting.edges_in.Goals as goal

pub returns : goal.returns
returns c a b =
    let all : c.loop-object.edges.items ≡ edges_of c.args.bodies.now.entries = search rules in
    let sorted : IsOrdered nat_cmp c.args.bodies.now = search rules in
    ap (has_edge a b) all ∙ edge_of a b c.args.bodies.now.entries sorted
