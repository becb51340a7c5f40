use Rattle.std.proofs.Common.{◌≡◌, List, [], ◌∷◌, ◌++◌, sym, subst, ap, ◌∙◌}
use Rattle.std.specs.Prelude.{Option}
use Rattle.std.proofs.lemmas.Result.{IfOk-weaker}
use Rattle.dso_base.specs.declared.lock.Grade.{Grade}
use Rattle.dso_machine.specs.declared.tree.Expr.TheVariants as x
use Rattle.dso_lint.specs.declared.holds.Hold.{Hold}
use Rattle.dso_lint.specs.Holds.{AreHolds, hold_at}
use Rattle.dso_lint.specs.Rows.{chosen_by}
use Rattle.dso_lint.specs.Sites.{own_sites, whole_site}
use Rattle.dso_lint.proofs.guarding.Holding.{no_holds, more_holds}
use Rattle.dso_lint.proofs.guarding.Under.{site_of}
use Rattle.dso_lint.proofs.access.own_holds.Goals as goal

pub returns : goal.returns
returns c routine listed =
    let shape = c.args.shape.now in
    let chosen = chosen_by c.args.row.now in
    let grade = c.in-Some.grade in
    let site = site_of x.This grade routine.statements in
    let own : own_sites routine ≡ site ∷ [] = ap (λ (synced : Option Grade). whole_site synced routine.statements) (sym listed.synced ∙ c.in-Some.is) in
    let held = c.own_hold-held.result in
    let are : AreHolds shape chosen ([] ++ hold_at held grade) (site ∷ []) = more_holds shape chosen [] [] site held (no_holds shape chosen) (c.own_hold-held.ensures routine listed grade) in
    IfOk-weaker c.with_hold.result _ _ (λ all is. subst (AreHolds shape chosen all.items) (sym own) (subst (λ (items : List Hold). AreHolds shape chosen items (site ∷ [])) (sym is) are)) c.with_hold.ensures
