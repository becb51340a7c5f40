use Rattle.std.proofs.Common.{◌∙◌, ap}
use Rattle.dso_server.proofs.reads.holds.Goals as goal

pub returns : goal.returns
returns c = λ p es s. c.holds.ensures ∙ ap (λ f. f c.args.client c.args.object) s.store.holds
