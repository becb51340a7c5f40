use Rattle.std.proofs.Common.{ap, ◌∙◌}
use Rattle.std.specs.Option.{option_map}
use Rattle.dso_plain.specs.After as After
use Rattle.dso_plain.specs.HeapTables.{state_of, hold_of}
use Rattle.dso_plain.proofs.table_changes.TwoChanges.{waited}
use Rattle.dso_plain.proofs.changes.wait.Goals as goal

pub set_wait-requires-clause-awake : goal.set_wait-requires-clause-awake
set_wait-requires-clause-awake c = ap (λ s. s.asleep (c.args.lock, c.args.thread)) c.in_ok-hold.ensures.state ∙ c.requires.awake

pub returns-clause-state : goal.returns-clause-state
returns-clause-state c = waited c.args.lock c.args.thread c.count_of-count.result (state_of c.args.tables.now) (state_of c.drop_hold.new.tables) (state_of c.set_wait.new.tables) c.in_ok-hold.ensures.state c.in_ok-set_wait.ensures.state (c.count_of-count.ensures ∙ ap (λ h. After.count_of (option_map hold_of h)) c.in_ok-hold.ensures.was)
