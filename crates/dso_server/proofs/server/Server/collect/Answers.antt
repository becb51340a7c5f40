use Rattle.std.proofs.Common.{◌∙◌, ap}
use Rattle.dso_lookup.specs.Search.{is_listed}
use Rattle.dso_server.specs.Fitting.{graph_in}
use Rattle.dso_server.proofs.Collected.{start_stays, swept_by, swept_stands}
use Rattle.dso_server.proofs.server.Server.collect.Goals as goal
use Rattle.dso_store.specs.Collecting.{without}

pub sweep-requires : goal.sweep-requires
sweep-requires c = ap (is_listed 0) c.as_slice.ensures.value ∙ start_stays c.args.self.now c.args.starts.now c.in_ok-swept.swept.items c.args.edges.now 0 c.requires (λ e. (c.in_ok-swept.ensures.exact 0).0 e)

pub returns-clause-stands : goal.returns-clause-stands
returns-clause-stands c p es s =
    let has = swept_by c.in_ok-swept.swept.items c.args.self.now c.sweep.new.self (c.sweep.ensures.bodies ∙ ap (λ ids. without ids (graph_in c.args.self.now)) c.as_slice.ensures.value) c.sweep.ensures.holds c.sweep.ensures.last in
    swept_stands c.in_ok-swept.swept.items c.args.self.now _ has p es s
