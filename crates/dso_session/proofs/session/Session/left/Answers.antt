use Rattle.std.proofs.Common.{◌-◌, ◌∙◌, ap}
use Rattle.dso_session.proofs.Left.{left_was_sent, parts_left}
use Rattle.dso_session.proofs.session.Session.left.Goals as goal

pub returns-clause-kept : goal.returns-clause-kept
returns-clause-kept g c = parts_left c.args.accepted c.saturating_sub-passed.result c.saturating_sub-more.result c.args.self.now c.as_slices.result.0.now c.as_slices.result.1.now c.behind.result.now c.behind-2.result.now
    (c.saturating_sub-passed.ensures ∙ ap (λ end. c.args.accepted - end.seen) c.self.view_is) c.saturating_sub-more.ensures (c.as_slices.ensures.items ∙ ap (λ end. end.kept) c.self.view_is) c.behind.ensures c.behind-2.ensures

pub returns-clause-sent : goal.returns-clause-sent
returns-clause-sent g c sent has least = returns-clause-kept g c ∙ left_was_sent c.args.accepted sent c.args.self.now has least
