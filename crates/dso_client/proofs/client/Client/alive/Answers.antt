use Rattle.std.proofs.Common.{subst, ap, ◌∙◌, is_some, count_by}
use Rattle.dso_client.specs.Threads.{TellsAlive}
use Rattle.dso_client.proofs.contexts.Going.{alive_told}
use Rattle.dso_client.proofs.client.Client.alive.Goals as goal

pub returns : goal.returns
returns c = subst (λ kept. TellsAlive kept c.alive.result) c.self.view_is (λ code p client es h.
    c.alive.ensures.count ∙ (ap (count_by (λ context. is_some context.next)) c.as_slice.ensures.value
    ∙ alive_told c.self.inside.kept code p client es h))
