use Rattle.std.proofs.Common.{ap, sym, ◌∙◌, ◌||◌, ◌&&◌, eqb}
use Rattle.std.proofs.lemmas.Result.{on_ok_weaker}
use Rattle.dso_base.specs.Block.{body_names}
use Rattle.dso_lookup.specs.Search.{has_edge}
use Rattle.dso_table.specs.Edges.{with_edges}
use Rattle.dso_table.specs.States.{copy_of}
use Rattle.dso_table.proofs.objects.CopyEdges.{edges_listed}
use Rattle.dso_table.proofs.edges.add_copy.Goals as goal

pub returns-in-Resident : goal.returns-in-Resident
returns-in-Resident c = on_ok_weaker c.add_edges.result (λ added a b.
    ap (has_edge a b) (added ∙ ap (λ values. with_edges c.args.object values c.args.edges.now.items) c.as_slice.ensures)
    ∙ edges_listed c.args.object c.in-Resident.body.values c.args.edges.now.items a b
    ∙ ap (λ standing. has_edge a b c.args.edges.now.items || (eqb c.args.object a && body_names (copy_of standing) b)) (sym c.in-Resident.is)) c.add_edges.ensures
