use Rattle.std.proofs.Common.{refl}
use Rattle.dso_host.specs.Hosts.{cluster_of}
use Rattle.dso_host.proofs.hosts.Named.{named_whole, rest_few, rest_named}
use Rattle.dso_host.proofs.hosts.Rest.{at_rest}
use Rattle.dso_host.proofs.host.cells_after.Goals as goal

pub run_cells-requires-clause-stand : goal.run_cells-requires-clause-stand
run_cells-requires-clause-stand g c κs within = rest_named c.args.setting.now.program.now c.args.cells c.requires.rest

pub run_cells-requires-clause-few : goal.run_cells-requires-clause-few
run_cells-requires-clause-few g c κs within = rest_few c.args.setting.now.program.now c.args.cells c.requires.rest

-- those that are out of their locks are whole
pub stepped-requires-clause-whole : goal.stepped-requires-clause-whole
stepped-requires-clause-whole g c =
    let program = c.args.setting.now.program.now in named_whole program (cluster_of program c.args.cells) c.in_ok-driven.driven refl refl c.in_ok-driven.ensures

-- and rest once their ends have met
pub returns : goal.returns
returns g c = at_rest c.args.setting.now.program.now c.in_ok-cells.cells c.meet.new.self c.in_ok-cells.ensures c.meet.ensures.looked c.meet.ensures.stands c.meet.ensures.known
