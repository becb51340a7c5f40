use Rattle.std.proofs.Common.{sym, ◌∙◌}
use Rattle.dso_table.proofs.objects.AtPlaces.{placed_written}
use Rattle.dso_table.proofs.places.write.Goals as goal

pub returns-in-Some-get_mut : goal.returns-in-Some-get_mut
returns-in-Some-get_mut c =
    let w = placed_written c.args.places.now c.requires.agree c.args.set c.args.changed c.in-Some.place c.in-Some-get_mut.held.now c.write.new.self c.write.result (sym (c.in-Some.ensures ∙ c.get.ensures.value)) c.in-Some-get_mut.ensures.value c.write.ensures.found c.write.ensures.written c.write.ensures.unchanged in
    record { found = w.found; written = w.written; unchanged = w.unchanged; agree = w.agree }
