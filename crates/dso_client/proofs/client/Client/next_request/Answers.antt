use Rattle.std.proofs.Common.{◌≡◌, ap, subst, ◌∙◌, None}
use Rattle.dso_law.specs.ClientRun.{next_in}
use Rattle.dso_machine.specs.Next.{next_request}
use Rattle.dso_client.specs.Threads.{IsNextRequest, WhereAbsent}
use Rattle.dso_client.specs.ClientStands.{point}
use Rattle.dso_client.proofs.contexts.ContextsFound.{found_stands, found_is, is_missing, never_missing}
use Rattle.dso_client.proofs.client.Client.next_request.Goals as goal

pub returns-in-Some-clause-next : goal.returns-in-Some-clause-next
returns-in-Some-clause-next c = subst (λ kept. IsNextRequest kept c.args.index c.in-Some.context.now.next) c.self.view_is (λ code p client es h its.
    let at = point code p client es in
    let kept = c.self.inside.kept in
    (found_stands at kept h.parts c.args.index c.in-Some.context.now c.in-Some.ensures).next
    ∙ ap (λ t. next_in (next_request code) es t) (found_is at kept h.parts c.args.index c.in-Some.context.now c.in-Some.ensures))

pub returns-in-None-clause-next : goal.returns-in-None-clause-next
returns-in-None-clause-next c = subst (λ kept. IsNextRequest kept c.args.index None) c.self.view_is (λ code p client es h its.
    absurd (never_missing (point code p client es) c.self.inside.kept h.parts c.args.index its c.in-None.ensures))

pub returns-in-Some-clause-absent : goal.returns-in-Some-clause-absent
returns-in-Some-clause-absent c = subst (λ kept. WhereAbsent kept c.args.index (c.in-Some.context.now.next ≡ None)) c.self.view_is (λ code p client es h none.
    absurd (cc (c.in-Some.ensures ∙ is_missing (point code p client es) c.self.inside.kept h.parts c.args.index none)))
