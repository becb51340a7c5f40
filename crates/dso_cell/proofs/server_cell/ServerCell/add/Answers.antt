use Rattle.dso_cell.proofs.server_cell.ServerCell.add.Goals as goal

pub returns-in_ok-suffer-in-Some-clause-stands : goal.returns-in_ok-suffer-in-Some-clause-stands
returns-in_ok-suffer-in-Some-clause-stands c = c.in_ok-suffer-in-Some.ensures.stands c.args.code.now
