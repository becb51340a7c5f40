use Rattle.std.proofs.Common.{subst}
use Rattle.dso_lint.specs.Tables.{IsTableOf, TableAt}
use Rattle.dso_lint.proofs.tables.Tables.table.Goals as goal

pub returns-in-Some-clause-place : goal.returns-in-Some-clause-place
returns-in-Some-clause-place c =
    subst (IsTableOf c.args.lock c.in-Some.place) c.as_slice.ensures.value (subst (TableAt c.args.lock c.as_slice.result.now) c.in-Some.is c.find_table.ensures)
