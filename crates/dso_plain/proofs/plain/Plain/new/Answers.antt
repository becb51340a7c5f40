use Rattle.std.proofs.Common.{sym, subst}
use Rattle.std.specs.Ordering.{nat_cmp}
use Rattle.dso_plain.specs.StepInvariants.{PastInvariant, MonitorInvariant}
use Rattle.dso_lookup.specs.Maps.{look}
use Rattle.dso_plain.specs.HeapTables.{field_order, pasts_of}
use Rattle.dso_plain.proofs.table_changes.BlankTables.{blank_keeps, opened}
use Rattle.dso_plain.proofs.invariants.PastsHold as past
use Rattle.dso_plain.proofs.invariants.MonitorsHold as monitors
use Rattle.dso_plain.proofs.plain.Plain.new.Goals as goal

pub returns : goal.returns
returns c = opened c.args.shape.now c.blank-tables.result c.blank-tables.ensures (look nat_cmp c.put.new.map) (look field_order c.make_fields.new.heap) (pasts_of c.open_fields.new.past) c.in_ok-put.ensures c.in_ok-make_fields.ensures c.in_ok-open_fields.ensures

pub invariant_of-result : goal.invariant_of-result
invariant_of-result c =
    let is = opened c.args.shape.now c.blank-tables.result c.blank-tables.ensures (look nat_cmp c.put.new.map) (look field_order c.make_fields.new.heap) (pasts_of c.open_fields.new.past) c.in_ok-put.ensures c.in_ok-make_fields.ensures c.in_ok-open_fields.ensures in
    let blank = blank_keeps c.blank-tables.result c.blank-tables.ensures in
    record {
      past = subst (λ s. PastInvariant s) (sym is) (past.opening_kept c.args.shape.now);
      monitors = subst (λ s. MonitorInvariant s) (sym is) (monitors.opening_kept c.args.shape.now);
      agrees = record { held = blank.agrees.held; waiting = blank.agrees.waiting; apart = blank.agrees.apart; listed = blank.agrees.listed };
    }
