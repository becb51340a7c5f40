use Rattle.std.proofs.Common.{sym, ◌∙◌, ap}
use Rattle.std.specs.List.{list_any}
use Rattle.dso_law.specs.ServerReadings.{is_in_batch}
use Rattle.dso_server.proofs.reads.is_given.Goals as goal

pub returns : goal.returns
returns c = λ p es s. c.is_given.ensures ∙ ap (λ given. list_any (is_in_batch c.args.object) given) (sym s.ids)
