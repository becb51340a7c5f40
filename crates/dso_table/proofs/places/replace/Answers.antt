use Rattle.std.proofs.Common.{refl, sym, ◌∙◌}
use Rattle.dso_table.proofs.objects.AtPlaces.{placed_back}
use Rattle.dso_table.proofs.places.replace.Goals as goal

pub returns-in-Some-get_mut : goal.returns-in-Some-get_mut
returns-in-Some-get_mut c =
    let p = placed_back c.args.places.now c.requires.agree c.args.slot.object c.in-Some.place c.in-Some-get_mut.held.now c.args.slot (sym (c.in-Some.ensures ∙ c.get.ensures.value)) c.in-Some-get_mut.ensures.value refl in
    record { changed = p.slots_are; agree = p.agree }
