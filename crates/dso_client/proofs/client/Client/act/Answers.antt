use Rattle.std.proofs.Common.{sym, subst}
use Rattle.dso_client.specs.ClientStands.{ClientStands, point}
use Rattle.dso_client.proofs.contexts.ContextsFound.{is_missing}
use Rattle.dso_client.proofs.client.Client.act.Goals as goal

pub returns-in-Ok-clause-absent : goal.returns-in-Ok-clause-absent
returns-in-Ok-clause-absent c = λ code p client es h none.
    let before = subst (λ kept. ClientStands code p client kept es) (sym c.self.view_is) h in
    c.in-Ok.ensures.absent (is_missing (point code p client es) c.self.inside.kept before.parts c.args.index none)
