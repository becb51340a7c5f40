use Rattle.std.proofs.Common.{sym, ◌∙◌, ap}
use Rattle.dso_table.proofs.tables.touch.Goals as goal

pub returns-clause-agree : goal.returns-clause-agree
returns-clause-agree c = record {
  places = c.requires.agree.places;
  order = c.touch.ensures.agrees;
  residents = λ o. c.requires.agree.residents o ∙ sym (ap (λ f. f o) c.touch.ensures.ordered);
}
