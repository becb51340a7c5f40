use Rattle.std.proofs.Common.{◌≡◌, ◌∙◌, ap, subst}
use Rattle.dso_server.specs.Triggers.{break_due_by}
use Rattle.dso_cell.specs.Pairs.{HasTriggers, Pair, is_break_due_at, is_loss_due_at}
use Rattle.dso_cell.proofs.client_pair.ClientPair.is_break_due.Goals as goal

pub returns : goal.returns
returns c p has =
    let inside = c.self.inside in
    let loss = c.is_loss_due-is_loss_due.result in
    subst (λ (pair : Pair). HasTriggers p pair → loss ≡ is_loss_due_at p pair → c.is_break_due.result ≡ is_break_due_at p pair) c.self.view_is
    (λ triggers due. c.is_break_due.ensures inside.client p.losses p.breaks triggers
    ∙ ap (λ n. break_due_by inside.client n inside.is_lost loss c.epoch.result p.breaks) c.accepted.ensures
    ∙ ap (λ n. break_due_by inside.client inside.end.now.port.session.accepted inside.is_lost loss n p.breaks) c.epoch.ensures
    ∙ ap (λ b. break_due_by inside.client inside.end.now.port.session.accepted inside.is_lost b inside.end.now.port.session.epoch p.breaks) due) has (c.is_loss_due-is_loss_due.ensures p has)
