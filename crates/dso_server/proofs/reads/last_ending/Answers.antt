use Rattle.std.proofs.Common.{◌∙◌, ap}
use Rattle.dso_server.proofs.reads.last_ending.Goals as goal

pub returns : goal.returns
returns c = λ p es s. c.last.ensures ∙ ap (λ f. f c.args.thread) s.threads.last
