use Rattle.std.proofs.Common.{◌≡◌, ◌⊎◌, inl, inr, refl, arith, List, [], ◌∷◌, ◌++◌, get_or, sym, subst, ap, ◌∙◌}
use Rattle.std.specs.Prelude.{Contains}
use Rattle.std.proofs.lemmas.Bool.{cases_eq}
use Rattle.std.proofs.lemmas.List.{get_or_default}
use Rattle.std.proofs.lemmas.Result.{IfOk-weaker}
use Rattle.dso_machine.specs.declared.tree.Expr.{Expr}
use Rattle.dso_machine.specs.declared.tree.Stmt.{Stmt}
use Rattle.dso_lint.specs.declared.holds.Hold.{Hold}
use Rattle.dso_lint.specs.Holds.{AreHolds, hold_at}
use Rattle.dso_lint.specs.Rows.{chosen_by}
use Rattle.dso_lint.specs.Sites.{insides}
use Rattle.dso_lint.proofs.guarding.Holding.{more_holds}
use Rattle.dso_lint.proofs.guarding.Under.{IsGuardedOne, inside_of, site_of, inside_If, inside_While, inside_Sync, one_guarded, first_guarded, two_guarded, second_guarded, block_guarded, makes_there, inner_there}
use Rattle.dso_lint.proofs.access.+guarded.Goals as goal

pub all_guarded-returns-then-not-made : goal.all_guarded-returns-then-not-made
all_guarded-returns-then-not-made t c sites scene =
    let block = c.args.block.now in
    let a = c.get-a.result.now in
    let there : Contains block a = subst (Contains block) (sym c.get-a.ensures) (c.loop-a.a-index, c.loop-a-test.true, sym c.a-item.is) in (
      λ q. absurd (cc q),
      λ all. sym c.if-not-made.true ∙ (c.in_ok-made.ensures sites scene).1 (makes_there c.args.scene.now sites block a there all),
    )

pub all_guarded-returns-then-not-inner : goal.all_guarded-returns-then-not-inner
all_guarded-returns-then-not-inner t c sites scene =
    let block = c.args.block.now in
    let a = c.get-a.result.now in
    let there : Contains block a = subst (Contains block) (sym c.get-a.ensures) (c.loop-a.a-index, c.loop-a-test.true, sym c.a-item.is) in (
      λ q. absurd (cc q),
      λ all. sym c.if-not-inner.true ∙ (c.in_ok-inner.ensures sites scene).1 (inner_there c.args.scene.now sites block a there all),
    )

pub all_guarded-loop-a-preserved : goal.all_guarded-loop-a-preserved
all_guarded-loop-a-preserved t c sites scene k d low = by (cases_eq k c.loop-a.a-index)
  where
    here : IsGuardedOne c.args.scene.now sites c.get-a.result.now
    here = ((c.in_ok-made.ensures sites scene).0 c.if-not-made.false, (c.in_ok-inner.ensures sites scene).0 c.if-not-inner.false)

    by : (k ≡ c.loop-a.a-index) ⊎ (k ≡ c.loop-a.a-index → ⊥) → IsGuardedOne c.args.scene.now sites (get_or c.args.block.now k d)
    by (inl same) =
        let block = c.args.block.now in
        let at : get_or block k d ≡ c.get-a.result.now =
        ap (λ n. get_or block n d) same ∙ get_or_default block c.loop-a.a-index d c.a-item.result c.loop-a-test.true ∙ sym c.a-item.is ∙ sym c.get-a.ensures in
        subst (IsGuardedOne c.args.scene.now sites) (sym at) here
    by (inr other) = c.loop-a.invariant sites scene k d (omega (arith, low, other))

pub all_guarded-returns : goal.all_guarded-returns
all_guarded-returns t c sites scene = (
  λ q. block_guarded c.args.scene.now sites c.args.block.now (λ b there. subst (IsGuardedOne c.args.scene.now sites) there.2 (c.loop-a.invariant sites scene there.0 b (omega (arith, there.1, c.loop-a-test.false)))),
  λ all. refl,
)

pub inner_guarded-returns-then-not-first : goal.inner_guarded-returns-then-not-first
inner_guarded-returns-then-not-first t c sites so =
    let a = c.args.a.now in
    let one = inside_of sites c.as_slice.result.now in
    let two = inside_of sites c.in-If.others in
    let form : insides sites a ≡ one ∷ two ∷ [] = ap (insides sites) c.in-If.is ∙ inside_If sites c.in-If.field-0 c.in-If.all c.in-If.others ∙ ap (λ (b : List Stmt). inside_of sites b ∷ inside_of sites c.in-If.others ∷ []) (sym c.get.ensures ∙ sym c.as_slice.ensures) in (
      λ q. absurd (cc q),
      λ inner. sym c.if-not-first.true ∙ (c.in_ok-first-in-If.ensures sites so).1 (first_guarded c.args.scene.now sites a one (two ∷ []) form inner),
    )

pub inner_guarded-returns-else-not-first : goal.inner_guarded-returns-else-not-first
inner_guarded-returns-else-not-first t c =
    let scene = c.args.scene.now in
    let a = c.args.a.now in
    IfOk-weaker c.all_guarded-in-If.result _ _ (λ guarded is sites so.
    let one = inside_of sites c.as_slice.result.now in
    let two = inside_of sites c.as_slice-in-If.result.now in
    let form : insides sites a ≡ one ∷ two ∷ [] = ap (insides sites) c.in-If.is ∙ inside_If sites c.in-If.field-0 c.in-If.all c.in-If.others
    ∙ ap (λ (b : List Stmt). inside_of sites b ∷ inside_of sites c.in-If.others ∷ []) (sym c.get.ensures ∙ sym c.as_slice.ensures)
    ∙ ap (λ (b : List Stmt). inside_of sites c.as_slice.result.now ∷ inside_of sites b ∷ []) (sym c.get-in-If.ensures ∙ sym c.as_slice-in-If.ensures) in (
      λ q. two_guarded scene sites a one two form ((c.in_ok-first-in-If.ensures sites so).0 c.if-not-first.false) ((is sites so).0 q),
      λ inner. (is sites so).1 (second_guarded scene sites a one two form inner),
    )) c.all_guarded-in-If.ensures

pub inner_guarded-returns-in-While : goal.inner_guarded-returns-in-While
inner_guarded-returns-in-While t c =
    let scene = c.args.scene.now in
    let a = c.args.a.now in
    let all = c.as_slice-in-While.result.now in
    IfOk-weaker c.all_guarded-in-While.result _ _ (λ guarded is sites so.
    let inside = inside_of sites all in
    let form : insides sites a ≡ inside ∷ [] = ap (insides sites) c.in-While.is ∙ inside_While sites c.in-While.field-0 c.in-While.all ∙ ap (λ (b : List Stmt). inside_of sites b ∷ []) (sym c.get-in-While.ensures ∙ sym c.as_slice-in-While.ensures) in (
      λ q. one_guarded scene sites a inside form ((is sites so).0 q),
      λ inner. (is sites so).1 (first_guarded scene sites a inside [] form inner),
    )) c.all_guarded-in-While.ensures

pub inner_guarded-returns-in_ok-holds-in-Sync : goal.inner_guarded-returns-in_ok-holds-in-Sync
inner_guarded-returns-in_ok-holds-in-Sync t c =
    let scene = c.args.scene.now in
    let shape = scene.shape.now in
    let chosen = chosen_by scene.row.now in
    let a = c.args.a.now in
    let all = c.as_slice-block.result.now in
    let grade = c.in-Sync.grade in
    let site = site_of c.get-in-Sync-2.result.now grade all in
    IfOk-weaker c.all_guarded-in-Sync.result _ _ (λ guarded is sites so.
    let inside = inside_of (site ∷ sites) all in
    let form : insides sites a ≡ inside ∷ [] = ap (insides sites) c.in-Sync.is ∙ inside_Sync sites c.in-Sync.lock grade c.in-Sync.all
    ∙ ap (λ (e : Expr). inside_of (site_of e grade c.in-Sync.all ∷ sites) c.in-Sync.all ∷ []) (sym c.get-in-Sync-2.ensures)
    ∙ ap (λ (b : List Stmt). inside_of (site_of c.get-in-Sync-2.result.now grade b ∷ sites) b ∷ []) (sym c.get-in-Sync.ensures ∙ sym c.as_slice-block.ensures) in
    let more : AreHolds shape chosen (scene.holds.now ++ hold_at c.in_ok-held-in-Sync.held grade) (site ∷ sites) = more_holds shape chosen scene.holds.now sites site c.in_ok-held-in-Sync.held so (c.in_ok-held-in-Sync.ensures grade) in
    let inner : AreHolds shape chosen c.as_slice-in-Sync.result.now (site ∷ sites) = subst (λ (holds : List Hold). AreHolds shape chosen holds (site ∷ sites)) (sym (c.as_slice-in-Sync.ensures.value ∙ c.in_ok-holds-in-Sync.ensures)) more in (
      λ q. one_guarded scene sites a inside form ((is (site ∷ sites) inner).0 q),
      λ all_in. (is (site ∷ sites) inner).1 (first_guarded scene sites a inside [] form all_in),
    )) c.all_guarded-in-Sync.ensures
