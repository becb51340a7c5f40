use Rattle.std.proofs.Common.{List, sym, subst}
use Rattle.std.proofs.lemmas.Result.{IfOk-weaker}
use Rattle.dso_lint.specs.declared.access.Scene.{Scene}
use Rattle.dso_lint.specs.declared.holds.Hold.{Hold}
use Rattle.dso_lint.specs.Holds.{AreHolds}
use Rattle.dso_lint.specs.Rows.{chosen_by}
use Rattle.dso_lint.specs.Sites.{own_sites}
use Rattle.dso_lint.proofs.guarding.Under.{keeps_as, keeps_back}
use Rattle.dso_lint.proofs.access.keeps_access.Goals as goal

pub returns : goal.returns
returns c routine listed =
    let scene : Scene = record { shape = c.args.shape; row = c.args.row; named = c.args.body.now.named; holds = c.as_slice.result } in
    let block = c.args.body.now.block.now in
    let around : AreHolds c.args.shape.now (chosen_by c.args.row.now) c.as_slice.result.now (own_sites routine) = subst (λ (h : List Hold). AreHolds c.args.shape.now (chosen_by c.args.row.now) h (own_sites routine)) (sym c.as_slice.ensures.value) (c.in_ok-holds.ensures routine listed) in
    IfOk-weaker c.all_guarded.result _ _ (λ keeps is. (
      λ q. keeps_as scene routine block listed.named listed.block ((is (own_sites routine) around).0 q),
      λ all. (is (own_sites routine) around).1 (keeps_back scene routine block listed.named listed.block all),
    )) c.all_guarded.ensures
