use Rattle.std.proofs.Common.{◌≡◌, subst}
use Rattle.std.specs.Bool.{OnTrue}
use Rattle.dso_table.specs.States.{set}
use Rattle.dso_table.specs.ObjectTables.{state_in}
use Rattle.dso_table.proofs.table.Table.set.Goals as goal

pub returns-clause-written : goal.returns-clause-written
returns-clause-written c = subst (λ t. OnTrue c.set.result (state_in c.set.new.tables ≡ set c.args.change c.args.changed (state_in t))) c.self.view_is c.set.ensures.written
