use Rattle.std.proofs.Common.{pos}
use Rattle.dso_report.proofs.ordering.EntriesGrow.{entries_more}
use Rattle.dso_report.proofs.numbering.add_entries.Goals as goal

-- the object of one entry more
pub loop-entry-preserved : goal.loop-entry-preserved
loop-entry-preserved c =
    entries_more c.args.entries.now c.loop-entry.entry-index (record { key = pos 0; object = 0 }) c.args.order.now.keys c.loop-entry.order.keys c.add_object.new.order.keys
    c.loop-entry-test.true c.loop-entry.invariant c.in_ok-add_object.ensures
