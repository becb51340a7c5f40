use Rattle.std.proofs.Common.{refl, List, subst, ◌∙◌}
use Rattle.dso_machine.specs.declared.tree.Stmt.{Stmt}
use Rattle.dso_lint.specs.Listed.{IsListed, routine_of_block}
use Rattle.dso_lint.proofs.listed.list_method.Goals as goal

pub returns : goal.returns
returns c =
    let one = c.in_ok-listed.listed in
    let is : IsListed one (routine_of_block c.args.method.now.body) = subst (λ (block : List Stmt). IsListed one (routine_of_block block)) (c.as_slice.ensures ∙ c.get.ensures) c.in_ok-listed.ensures in
    record { block = is.block; statements = is.statements; expressions = is.expressions; writes = is.writes; params = refl; named = refl; synced = refl }
