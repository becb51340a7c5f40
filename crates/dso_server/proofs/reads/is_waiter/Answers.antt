use Rattle.std.proofs.Common.{◌∙◌, ap}
use Rattle.std.specs.List.{list_any}
use Rattle.dso_base.specs.Following.{is_thread}
use Rattle.dso_server.proofs.reads.is_waiter.Goals as goal

pub returns : goal.returns
returns c = λ p es s. c.has.ensures ∙ ap (λ f. list_any (is_thread c.args.thread) (f c.args.lock)) s.waiters.lists
