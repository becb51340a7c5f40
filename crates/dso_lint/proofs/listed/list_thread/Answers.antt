use Rattle.std.proofs.Common.{List, subst, ◌∙◌}
use Rattle.std.proofs.lemmas.Result.{IfOk-weaker}
use Rattle.dso_machine.specs.declared.tree.Stmt.{Stmt}
use Rattle.dso_lint.specs.Listed.{IsListed, routine_of_block}
use Rattle.dso_lint.proofs.listed.list_thread.Goals as goal

pub returns : goal.returns
returns c = IfOk-weaker c.list_block.result _ _ (λ listed is. subst (λ (block : List Stmt). IsListed listed (routine_of_block block)) (c.as_slice.ensures ∙ c.get.ensures) is) c.list_block.ensures
