use Rattle.std.proofs.Common.{◌≡◌, Some, subst}
use Rattle.std.specs.BTreeMap.{is_at}
use Rattle.dso_lookup.specs.Maps.{look, writes, written}
use Rattle.dso_lookup.proofs.MapChanges.{changed_by}
use Rattle.dso_lookup.proofs.RowsInPlace.{in_there, in_none, on_err, same_entries, written_through, row_changed, row_kept}
use Rattle.dso_lookup.proofs.rows_in_place.insert_in.Goals as goal

pub returns-in_err-insert-in-Some-clause-err : goal.returns-in_err-insert-in-Some-clause-err
returns-in_err-insert-in-Some-clause-err g c =
    let new = c.get_mut.follows.lender c.insert.new.self in
    on_err c.from_residual.result (row_kept g.met.J.Ord.total g.K.Ord.cmp c.args.rows.now new c.in-Some.row.now c.insert.new.self c.args.at c.in-Some.ensures.value
    (same_entries g.K.Ord.cmp c.in-Some.row.now c.insert.new.self c.in_err-insert-in-Some.ensures.err)
    (written_through g.J.Ord.cmp c.args.rows.now new c.args.at c.in-Some.row.now c.insert.new.self (c.get_mut.follows.holds c.insert.new.self) c.in-Some.ensures.value))

pub returns-in_ok-insert-in-Some-clause-ok : goal.returns-in_ok-insert-in-Some-clause-ok
returns-in_ok-insert-in-Some-clause-ok g c =
    let new = c.get_mut.follows.lender c.insert.new.self in
    row_changed g.met.J.Ord.total g.K.Ord.cmp c.args.rows.now new c.in-Some.row.now c.insert.new.self c.args.at c.args.key (Some c.args.value)
    (in_there g.met.J.Ord.total g.K.Ord.cmp c.args.rows.now c.in-Some.row.now c.args.at c.in-Some.ensures.value)
    (changed_by g.K.Ord.cmp c.in-Some.row.now c.insert.new.self c.args.key (Some c.args.value) c.in_ok-insert-in-Some.ensures.updates)
    (written_through g.J.Ord.cmp c.args.rows.now new c.args.at c.in-Some.row.now c.insert.new.self (c.get_mut.follows.holds c.insert.new.self) c.in-Some.ensures.value)

pub returns-in_ok-insert-in-None-2-clause-ok : goal.returns-in_ok-insert-in-None-2-clause-ok
returns-in_ok-insert-in-None-2-clause-ok g c =
    row_changed g.met.J.Ord.total g.K.Ord.cmp c.args.rows.now c.insert-in-None-2.new.self c.new-row.result c.insert-in-None.new.self c.args.at c.args.key (Some c.args.value)
    (in_none g.met.J.Ord.total g.K.Ord.cmp c.args.rows.now c.new-row.result c.args.at c.new-row.ensures.empty c.in-None.ensures.value)
    (changed_by g.K.Ord.cmp c.new-row.result c.insert-in-None.new.self c.args.key (Some c.args.value) c.in_ok-insert-in-None.ensures.updates)
    (subst (λ rows. look g.J.Ord.cmp c.insert-in-None-2.new.self ≡ written (writes (is_at (g.J.Ord.cmp c.args.at)) (λ _. Some c.insert-in-None.new.self)) (look g.J.Ord.cmp rows)) c.get_mut.follows.holds-at-none
    (changed_by g.J.Ord.cmp c.get_mut.follows.lender-at-none c.insert-in-None-2.new.self c.args.at (Some c.insert-in-None.new.self) c.in_ok-insert-in-None-2.ensures.updates))
