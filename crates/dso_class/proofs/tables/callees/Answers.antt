use Rattle.dso_class.specs.Maps.{reachable_methods}
use Rattle.dso_class.proofs.faultless.Text.{clean_text}
use Rattle.dso_class.proofs.gathering.Callees.{callees_where, none_where, all_where}
use Rattle.dso_class.proofs.maps.Reachable.{few_reachable, reachable_rise}
use Rattle.dso_class.proofs.tables.callees.Goals as goal

pub returns-clause-there : goal.returns-clause-there
returns-clause-there c source are =
    none_where c.taking.result source.ast c.args.name.now c.args.count (callees_where c.taking.result source.ast c.args.name c.args.tables.now c.args.count c.row.result.now are c.row.ensures c.taking.ensures)

pub returns-clause-number : goal.returns-clause-number
returns-clause-number c source are fine =
    let clean = clean_text source.config source.ast fine in
    all_where c.taking.result (reachable_methods source.ast) c.args.name.now c.args.count (few_reachable source.config source.ast clean) (reachable_rise source.config source.ast clean)
    (callees_where c.taking.result source.ast c.args.name c.args.tables.now c.args.count c.row.result.now are c.row.ensures c.taking.ensures)
