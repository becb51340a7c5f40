use Rattle.std.proofs.Common.{Some, ap, ◌∙◌}
use Rattle.std.specs.Option.{option_map}
use Rattle.dso_plain.specs.After as After
use Rattle.dso_plain.specs.HeapTables.{state_of, hold_of}
use Rattle.dso_plain.proofs.table_changes.TwoChanges.{hold_again}
use Rattle.dso_plain.proofs.changes.enter.Goals as goal

pub returns-clause-state : goal.returns-clause-state
returns-clause-state c = hold_again c.args.lock c.args.thread (Some (hold_of c.in_ok-hold-2.hold)) _ (state_of c.args.tables.now) (state_of c.drop_hold.new.tables) (state_of c.set_hold.new.tables) c.in_ok-hold.ensures.state c.in_ok-set_hold.ensures.state (c.in_ok-hold-2.ensures ∙ ap (λ h. After.entered c.args.wanted (option_map hold_of h)) c.in_ok-hold.ensures.was)
