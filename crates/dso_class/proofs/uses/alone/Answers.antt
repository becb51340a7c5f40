use Rattle.std.proofs.Common.{refl}
use Rattle.dso_class.proofs.lists.Among.{not_none}
use Rattle.dso_class.proofs.mentions.Single.{alone_found, alone_unknown}
use Rattle.dso_class.proofs.walks.Narrowing.{variable_number}
use Rattle.dso_class.proofs.uses.alone.Goals as goal

pub returns-in-Some : goal.returns-in-Some
returns-in-Some c place texts source before is has =
    alone_found c.args.line c.narrow.result c.args.name.now has (not_none c.in-Some.number (c.in-Some.ensures.none has.known))
    (variable_number c.args.name.now c.in-Some.number c.narrow.result has c.in-Some.ensures.found c.narrow.ensures)

pub returns-in-None : goal.returns-in-None
returns-in-None c place texts source before is has = alone_unknown c.args.line c.args.name.now ((c.in-None.ensures.none has.known).0 refl)
