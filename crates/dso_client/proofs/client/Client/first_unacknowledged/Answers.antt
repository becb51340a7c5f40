use Rattle.std.proofs.Common.{◌≡◌, ℕ, false, subst}
use Rattle.std.specs.Option.{IfSome, IfNone}
use Rattle.dso_txn.specs.Numbers.{IsLeast}
use Rattle.dso_client.specs.ClientViews.{is_unacknowledged}
use Rattle.dso_client.proofs.client.Client.first_unacknowledged.Goals as goal

pub returns-clause-first : goal.returns-clause-first
returns-clause-first c = subst (λ kept. IfSome c.least.result (λ first. IsLeast first (is_unacknowledged kept))) c.self.view_is c.least.ensures.least

pub returns-clause-none : goal.returns-clause-none
returns-clause-none c = subst (λ kept. IfNone c.least.result ((n : ℕ) → is_unacknowledged kept n ≡ false)) c.self.view_is c.least.ensures.none
