use Rattle.std.proofs.Common.{Some}
use Rattle.dso_lookup.proofs.RowsInPlace.{in_there, written_through, row_changed}
use Rattle.dso_lookup.proofs.rows_in_place.replace_in.Goals as goal

pub returns-in-Some-get_mut : goal.returns-in-Some-get_mut
returns-in-Some-get_mut g c =
    let changed = c.get_mut-in-Some.follows.lender c.args.value in
    let new = c.get_mut.follows.lender changed in
    row_changed g.met.J.Ord.total g.K.Ord.cmp c.args.rows.now new c.in-Some.row.now changed c.args.at.now c.args.key.now (Some c.args.value)
    (in_there g.met.J.Ord.total g.K.Ord.cmp c.args.rows.now c.in-Some.row.now c.args.at.now c.in-Some.ensures.value)
    (written_through g.K.Ord.cmp c.in-Some.row.now changed c.args.key.now c.in-Some-get_mut.place.now c.args.value (c.get_mut-in-Some.follows.holds c.args.value) c.in-Some-get_mut.ensures.value)
    (written_through g.J.Ord.cmp c.args.rows.now new c.args.at.now c.in-Some.row.now changed (c.get_mut.follows.holds changed) c.in-Some.ensures.value)
