use Rattle.std.proofs.Common.{ap, sym, ◌∙◌}
use Rattle.std.proofs.lemmas.Result.{IfOk-weaker}
use Rattle.dso_lookup.specs.Search.{is_listed}
use Rattle.dso_gc.proofs.Adding.{row_read}
use Rattle.dso_gc.proofs.edges.EdgesPrivateObjects.named.Goals as goal

pub returns-in-Some : goal.returns-in-Some
returns-in-Some c = IfOk-weaker c.copied.result _ _ (λ named is o. ap (is_listed o) (is ∙ c.as_slice.ensures) ∙ row_read c.args.self.now.rows c.args.object o c.in-Some.row.now (sym c.in-Some.ensures.value)) c.copied.ensures
