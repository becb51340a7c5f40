use Rattle.std.proofs.Common.{sym, ap, ◌∙◌}
use Rattle.dso_class.specs.Maps.{make_map}
use Rattle.dso_class.specs.Mentions as mention
use Rattle.dso_class.proofs.new_maps.in_answer.Goals as goal

pub returns-in-Some : goal.returns-in-Some
returns-in-Some c owner known = c.in_expression.ensures owner known ∙ ap (λ value. make_map (mention.answer owner value known)) (sym c.in-Some.is)
