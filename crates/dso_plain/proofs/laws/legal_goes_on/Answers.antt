use Rattle.std.proofs.Common.{◌≡◌, true}
use Rattle.dso_plain.proofs.laws.legal_goes_on.Goals as goal
use Rattle.dso_plain.proofs.histories.LegalGoesOn.{goes_on}

pub returns : goal.returns
returns c = λ next listed. goes_on next (λ t es reply. listed t es reply ≡ true)
