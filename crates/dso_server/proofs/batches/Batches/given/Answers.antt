use Rattle.std.proofs.Common.{sym, ◌∙◌, ap, length}
use Rattle.std.proofs.lemmas.List.{length-reverse}
use Rattle.dso_server.proofs.batches.Batches.given.Goals as goal

pub returns : goal.returns
returns c = c.given.ensures ∙ (c.self.invariant ∙ (sym (length-reverse c.self.inside.owners) ∙ ap length c.self.view_is))
