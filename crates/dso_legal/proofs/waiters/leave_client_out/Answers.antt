use Rattle.std.proofs.Common.{rules, not, eqb}
use Rattle.std.proofs.lemmas.Fn.{filter_same}
use Rattle.dso_legal.proofs.waiters.leave_client_out.Goals as goal

pub returns : goal.returns
returns c = filter_same _ (λ t. not (eqb t.client c.args.client)) _ (λ t b f r. search rules) _ _ c.retain.ensures.filtered
