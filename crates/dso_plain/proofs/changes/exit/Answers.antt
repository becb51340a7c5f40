use Rattle.std.proofs.Common.{Some, ap, ◌∙◌}
use Rattle.std.specs.Option.{option_map}
use Rattle.dso_plain.specs.After as After
use Rattle.dso_plain.specs.HeapTables.{state_of, hold_of}
use Rattle.dso_plain.proofs.table_changes.TwoChanges.{hold_again}
use Rattle.dso_plain.proofs.changes.exit.Goals as goal

pub returns-in_ok-set_hold-in-Some-clause-state : goal.returns-in_ok-set_hold-in-Some-clause-state
returns-in_ok-set_hold-in-Some-clause-state c = hold_again c.args.lock c.args.thread (Some (hold_of c.in-Some.hold)) _ (state_of c.args.tables.now) (state_of c.drop_hold.new.tables) (state_of c.set_hold.new.tables) c.in_ok-hold.ensures.state c.in_ok-set_hold-in-Some.ensures.state (c.in-Some.ensures ∙ ap (λ h. After.exited (option_map hold_of h)) c.in_ok-hold.ensures.was)
