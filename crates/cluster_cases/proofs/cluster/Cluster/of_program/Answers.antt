use Rattle.cluster_cases.proofs.FirstBounds.{new_cells_keep}
use Rattle.cluster_cases.proofs.cluster.Cluster.of_program.Goals as goal

-- its cells keep their bounds
pub invariant_of-result : goal.invariant_of-result
invariant_of-result c =
    new_cells_keep c.args.program c.in_ok-clients.clients.items c.in_ok-clients.server c.requires c.in_ok-clients.ensures.clients c.in_ok-clients.ensures.server
