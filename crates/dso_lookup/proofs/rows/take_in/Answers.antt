use Rattle.std.proofs.Common.{None, ap, ◌∙◌}
use Rattle.dso_lookup.specs.Rows.{look_in}
use Rattle.dso_lookup.proofs.MapChanges.{changed_by}
use Rattle.dso_lookup.proofs.RowsInPlace.{in_there, written_through, row_changed, row_absent}
use Rattle.dso_lookup.proofs.rows.take_in.Goals as goal

pub returns-in-Some-clause-gone : goal.returns-in-Some-clause-gone
returns-in-Some-clause-gone g c =
    let new = c.get_mut.follows.lender c.remove.new.self in
    row_changed g.met.J.Ord.total g.K.Ord.cmp c.args.rows.now new c.in-Some.row.now c.remove.new.self c.args.at c.args.key.now None
    (in_there g.met.J.Ord.total g.K.Ord.cmp c.args.rows.now c.in-Some.row.now c.args.at c.in-Some.ensures.value)
    (changed_by g.K.Ord.cmp c.in-Some.row.now c.remove.new.self c.args.key.now None c.remove.ensures.updates)
    (written_through g.J.Ord.cmp c.args.rows.now new c.args.at c.in-Some.row.now c.remove.new.self (c.get_mut.follows.holds c.remove.new.self) c.in-Some.ensures.value)

pub returns-clause-gone : goal.returns-clause-gone
returns-clause-gone g c = ap (λ rows. look_in g.J.Ord.cmp g.K.Ord.cmp rows) c.get_mut.follows.holds-at-none ∙ row_absent g.met.J.Ord.total g.K.Ord.cmp c.args.rows.now c.args.at c.args.key.now c.in-None.ensures.value
