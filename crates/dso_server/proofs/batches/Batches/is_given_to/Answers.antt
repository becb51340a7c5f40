use Rattle.std.proofs.Common.{sym, ◌∙◌, ap, eqb, ◌&&◌, Some, None}
use Rattle.std.specs.List.{list_any}
use Rattle.dso_law.specs.ServerReadings.{is_in_batch}
use Rattle.dso_server.specs.Batches.{batches_to}
use Rattle.dso_server.proofs.standing.BatchesGiven.{owner_is, none_owned}
use Rattle.dso_server.proofs.batches.Batches.is_given_to.Goals as goal

pub returns-then-object-eq0 : goal.returns-then-object-eq0
returns-then-object-eq0 c = sym (ap (λ o. list_any (λ batch. eqb batch.client c.args.client && is_in_batch o batch) (batches_to c.args.self.now)) c.if-object-eq0.true ∙ none_owned c.args.client c.args.self.now)

pub returns-in-Some : goal.returns-in-Some
returns-in-Some c = owner_is c.args.client c.args.object c.args.self.now c.self.inside.owners (Some c.in-Some.owner.now) c.if-object-eq0.false c.self.view_is c.in-Some.ensures

pub returns-in-None : goal.returns-in-None
returns-in-None c = owner_is c.args.client c.args.object c.args.self.now c.self.inside.owners None c.if-object-eq0.false c.self.view_is c.in-None.ensures
