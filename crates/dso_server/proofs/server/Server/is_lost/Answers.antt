use Rattle.std.proofs.Common.{◌∙◌, ap}
use Rattle.dso_server.proofs.server.Server.is_lost.Goals as goal

pub returns : goal.returns
returns c = λ p es s. c.contains.ensures ∙ ap (λ f. f c.args.client) s.lost
