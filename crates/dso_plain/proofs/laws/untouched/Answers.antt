use Rattle.dso_plain.proofs.laws.untouched.Goals as goal
use Rattle.dso_plain.proofs.independence.LeftAlone.{leaves_own, leaves_field}

pub returns-clause-own : goal.returns-clause-own
returns-clause-own c = leaves_own

pub returns-clause-guarded : goal.returns-clause-guarded
returns-clause-guarded c = leaves_field
