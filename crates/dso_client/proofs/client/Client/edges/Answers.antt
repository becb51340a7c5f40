use Rattle.std.proofs.Common.{ap, ◌∙◌, subst, IfOk}
use Rattle.std.proofs.lemmas.Result.{IfOk-weaker}
use Rattle.dso_base.specs.Block.{body_names}
use Rattle.dso_client.specs.NamedObjects.{TellsEdges}
use Rattle.dso_client.proofs.client.Client.edges.Goals as goal

pub returns : goal.returns
returns c = subst (λ kept. IfOk c.edges.result (λ edges. TellsEdges kept edges.items)) c.self.view_is
    (IfOk-weaker c.edges.result _ _ (λ edges told code p client es h a b. told a b ∙ ap (λ body. body_names body b) (h.parts.table.bodies a)) c.edges.ensures)
