use Rattle.std.proofs.Common.{rules, not}
use Rattle.std.proofs.lemmas.Fn.{filter_same}
use Rattle.dso_base.specs.Following.{is_thread}
use Rattle.dso_legal.proofs.waiters.leave_out.Goals as goal

pub returns : goal.returns
returns c = filter_same _ (λ u. not (is_thread c.args.thread u)) _ (λ u b f r. search rules) _ _ c.retain.ensures.filtered
