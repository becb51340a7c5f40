use Rattle.std.proofs.Common.{subst, sym}
use Rattle.dso_client.specs.ObjectFlushes.{TellsFlush}
use Rattle.dso_client.proofs.flushed.FlushMade.{flush_told}
use Rattle.dso_client.proofs.client.Client.may_flush.Goals as goal

pub returns : goal.returns
returns c = subst (λ kept. TellsFlush kept c.is_some.result) c.self.view_is
    (subst (λ answer. TellsFlush c.self.inside.kept answer) (sym c.is_some.ensures)
    (flush_told c.victim.result c.self.inside.kept c.victim.ensures.victim c.victim.ensures.none))
