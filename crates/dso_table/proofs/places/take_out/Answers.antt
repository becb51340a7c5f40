use Rattle.std.proofs.Common.{sym}
use Rattle.dso_table.proofs.objects.AtPlaces.{placed_out}
use Rattle.dso_table.proofs.places.take_out.Goals as goal

pub returns-in-Some : goal.returns-in-Some
returns-in-Some c =
    let p = placed_out c.args.places.now (record { slots = c.try_remove.new.self; index = c.remove.new.self }) c.requires.agree c.args.object c.in-Some.place (sym c.in-Some.ensures.value) c.remove.ensures.updates.0 c.try_remove.ensures.updates in
    record { gone = p.slots_are; agree = p.agree }
