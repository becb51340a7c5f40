use Rattle.dso_legal.proofs.run_laws.changes.Goals as goal
use Rattle.dso_legal.proofs.runs.ChangesResident.{changes_stay_resident}

pub returns : goal.returns
returns c = changes_stay_resident
