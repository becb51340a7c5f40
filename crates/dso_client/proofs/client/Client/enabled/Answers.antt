use Rattle.std.proofs.Common.{◌≡◌, ap, subst, ◌∙◌, false}
use Rattle.dso_law.specs.ClientRun.{next_in}
use Rattle.dso_law.specs.ClientStep.{may_act}
use Rattle.dso_machine.specs.Next.{next_request}
use Rattle.dso_client.specs.Threads.{IsEnabled, WhereAbsent}
use Rattle.dso_client.specs.ClientStands.{point}
use Rattle.dso_client.proofs.contexts.ContextsFound.{found_stands, found_is, is_missing, never_missing}
use Rattle.dso_client.proofs.client.Client.enabled.Goals as goal

pub returns-in-Some-clause-enabled : goal.returns-in-Some-clause-enabled
returns-in-Some-clause-enabled c = subst (λ kept. IsEnabled kept c.args.index c.may_act.result) c.self.view_is (λ code p client es h sizes its.
    let at = point code p client es in
    let kept = c.self.inside.kept in
    c.may_act.ensures at h.parts (found_stands at kept h.parts c.args.index c.in-Some.context.now c.in-Some.ensures) sizes
    ∙ ap (λ t. may_act p client (next_in (next_request code) es) t es) (found_is at kept h.parts c.args.index c.in-Some.context.now c.in-Some.ensures))

pub returns-in-None-clause-enabled : goal.returns-in-None-clause-enabled
returns-in-None-clause-enabled c = subst (λ kept. IsEnabled kept c.args.index false) c.self.view_is (λ code p client es h sizes its.
    absurd (never_missing (point code p client es) c.self.inside.kept h.parts c.args.index its c.in-None.ensures))

pub returns-in-Some-clause-absent : goal.returns-in-Some-clause-absent
returns-in-Some-clause-absent c = subst (λ kept. WhereAbsent kept c.args.index (c.may_act.result ≡ false)) c.self.view_is (λ code p client es h none.
    absurd (cc (c.in-Some.ensures ∙ is_missing (point code p client es) c.self.inside.kept h.parts c.args.index none)))
