use Rattle.std.proofs.Common.{◌≡◌, ◌∙◌, ap, subst}
use Rattle.dso_server.specs.Triggers.{loss_due_by}
use Rattle.dso_cell.specs.Pairs.{HasTriggers, Pair, is_loss_due_at}
use Rattle.dso_cell.proofs.client_pair.ClientPair.is_loss_due.Goals as goal

pub returns : goal.returns
returns c p has =
    let inside = c.self.inside in
    subst (λ (pair : Pair). HasTriggers p pair → c.is_loss_due.result ≡ is_loss_due_at p pair) c.self.view_is
    (λ triggers. c.is_loss_due.ensures inside.client p.losses p.breaks triggers ∙ ap (λ n. loss_due_by inside.client n inside.is_lost p.losses) c.accepted.ensures) has
