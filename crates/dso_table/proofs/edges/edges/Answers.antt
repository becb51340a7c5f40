use Rattle.std.proofs.Common.{ap, sym, ◌∙◌, ◌||◌}
use Rattle.dso_lookup.specs.Search.{has_edge}
use Rattle.dso_table.proofs.objects.CopyEdges.{at_own_place, entries_name, or_false, place_on}
use Rattle.dso_table.proofs.edges.edges.Goals as goal

pub loop-object-preserved : goal.loop-object-preserved
loop-object-preserved c = λ a b. place_on c.args.places.now a b (c.in-Some.object.now, c.in-Some.place.now) c.next.new.self (has_edge a b c.loop-object.edges.items)
    (has_edge a b c.add_edges_at.new.edges.items) (entries_name c.args.places.now a b c.args.places.now.index.entries) (c.in_ok-add_edges_at.ensures a b)
    (ap (λ es. has_edge a b c.loop-object.edges.items || entries_name c.args.places.now a b es) (sym c.in-Some.ensures.steps) ∙ c.loop-object.invariant a b)

pub returns : goal.returns
returns c = λ a b. sym (or_false (has_edge a b c.loop-object.edges.items))
    ∙ ap (λ es. has_edge a b c.loop-object.edges.items || entries_name c.args.places.now a b es) (sym c.in-None.ensures.steps.0)
    ∙ c.loop-object.invariant a b ∙ at_own_place c.args.places.now a b c.args.places.now.index.entries c.iter-object-items.ensures.ordered
