use Rattle.std.specs.Ordering.{nat_cmp}
use Rattle.dso_lookup.specs.Maps.{look}
use Rattle.dso_plain.proofs.table_changes.ClientLeaves.{lose_state, lose_agrees}
use Rattle.dso_plain.proofs.clears.lose.Goals as goal

pub returns-clause-state : goal.returns-clause-state
returns-clause-state c = lose_state c.args.client c.args.tables.now c.requires c.take_row-row.new.rows c.take_row-row.result c.clear_all.new.tables (look nat_cmp c.put.new.map) c.take_row-row.ensures.row c.take_row-row.ensures.gone c.in_ok-clear_all.ensures c.in_ok-put.ensures

pub returns-clause-agrees : goal.returns-clause-agrees
returns-clause-agrees c =
    let a = lose_agrees c.args.client c.args.tables.now c.requires c.take_row-row.new.rows c.take_row-row.result c.clear_all.new.tables (look nat_cmp c.put.new.map) c.take_row-row.ensures.row c.take_row-row.ensures.gone c.in_ok-clear_all.ensures c.in_ok-put.ensures in
    record { held = a.held; waiting = a.waiting; apart = a.apart; listed = a.listed }
