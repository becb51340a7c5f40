use Rattle.dso_host.proofs.opening.cells_of.Goals as goal
use Rattle.dso_host.proofs.programs.FirstBounds.{made_bounded}

pub returns-clause-server : goal.returns-clause-server
returns-clause-server c = made_bounded c.cells.result (λ cells. cells.items) c.args.program.now c.requires c.as_slice.result.now c.as_slice-2.result.now c.as_slice.ensures c.as_slice-2.ensures
    c.cells.ensures.stand c.cells.ensures.server c.cells.ensures.ends
