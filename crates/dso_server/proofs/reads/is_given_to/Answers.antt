use Rattle.std.proofs.Common.{sym, ◌∙◌, ap, eqb, ◌&&◌}
use Rattle.std.specs.List.{list_any}
use Rattle.dso_law.specs.ServerReadings.{is_in_batch}
use Rattle.dso_server.proofs.reads.is_given_to.Goals as goal

pub returns : goal.returns
returns c = λ p es s. c.is_given_to.ensures ∙ ap (λ given. list_any (λ batch. eqb batch.client c.args.client && is_in_batch c.args.object batch) given) (sym s.ids)
