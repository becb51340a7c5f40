use Rattle.dso_law.proofs.core_laws.leases.Goals as goal
use Rattle.dso_law.proofs.core.Leases.{leases_tell, closing_is_kept}

pub returns-clause-tells : goal.returns-clause-tells
returns-clause-tells c = leases_tell

pub returns-clause-closing : goal.returns-clause-closing
returns-clause-closing c = closing_is_kept
