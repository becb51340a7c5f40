use Rattle.dso_table.proofs.objects.AtPlaces.{placed_new}
use Rattle.dso_table.proofs.places.add.Goals as goal

pub returns : goal.returns
returns c =
    let p = placed_new c.args.places.now (record { slots = c.insert_reserved.new.self; index = c.insert.new.self }) c.requires.agree c.args.slot c.reserve.new.self c.vacant_key-place.result c.insert_reserved.result c.reserve.ensures.rest_kept c.vacant_key-place.ensures.value c.insert_reserved.ensures.key c.in_ok-insert.ensures.updates.0 c.insert_reserved.ensures.was_vacant c.insert_reserved.ensures.updates in
    record { ok = p.slots_are; err = tt; agree = p.agree }
