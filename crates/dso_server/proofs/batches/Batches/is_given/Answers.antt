use Rattle.std.proofs.Common.{sym, ◌∙◌, ap, not, eqb, length}
use Rattle.std.proofs.lemmas.List.{length-reverse}
use Rattle.std.specs.List.{list_any}
use Rattle.dso_law.specs.ServerReadings.{is_in_batch}
use Rattle.dso_server.specs.Batches.{batches_to}
use Rattle.dso_server.proofs.standing.BatchesGiven.{given_is, none_given}
use Rattle.dso_server.proofs.batches.Batches.is_given.Goals as goal

pub returns-then-object-ne0 : goal.returns-then-object-ne0
returns-then-object-ne0 c = given_is c.args.object c.given.result c.args.self.now c.if-object-ne0.true (c.given.ensures ∙ (c.self.invariant ∙ (sym (length-reverse c.self.inside.owners) ∙ ap length c.self.view_is)))

pub returns-else-object-ne0 : goal.returns-else-object-ne0
returns-else-object-ne0 c = ap (λ o. not (eqb o 0)) c.if-object-ne0.false ∙ sym (ap (λ o. list_any (is_in_batch o) (batches_to c.args.self.now)) c.if-object-ne0.false ∙ none_given c.args.self.now)
