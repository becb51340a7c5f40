use Rattle.std.proofs.Common.{ℕ, ◌↔◌, ◌≡◌, List, IsTrue, subst, sym, ◌∙◌, take}
use Rattle.std.proofs.lemmas.List.{take_all}
use Rattle.std.proofs.lemmas.Result.{IfOk-weaker}
use Rattle.std.specs.BTreeSet.{BTreeSet, contains}
use Rattle.std.specs.Ordering.{nat_cmp}
use Rattle.dso_base.specs.Reached.{Reaches}
use Rattle.dso_gc.specs.Garbage.{IsIn, IsEdgeIn, IsGarbageOf}
use Rattle.dso_gc.proofs.sweep.garbage.Goals as goal

-- the objects that are in the graph and not in the set of those reached
unreached_is : (graph starts : List ℕ) (edges : List (ℕ × ℕ)) (reached : BTreeSet ℕ) (o : ℕ) → (IsTrue (contains nat_cmp reached o) ↔ Reaches (IsIn starts) (IsEdgeIn edges) o)
    → (IsIn graph o × ¬ IsTrue (contains nat_cmp reached o)) ↔ IsGarbageOf graph starts edges o
unreached_is graph starts edges reached o tells = (
  (λ h. record { there = h.0; unreached = λ r. h.1 (tells.1 r) }),
  (λ g. (g.there, (λ e. g.unreached (tells.0 e)))),
)

pub returns-clause-exact : goal.returns-clause-exact
returns-clause-exact c = IfOk-weaker c.listed.result _ _ (λ garbage is o.
    let e : take c.loop-object.object-index c.args.graph.now ≡ c.args.graph.now = take_all c.loop-object.object-index c.args.graph.now c.loop-object-test.false in
    let inv : IsTrue (contains nat_cmp c.loop-object.unreached o) ↔ (IsIn c.args.graph.now o × ¬ IsTrue (contains nat_cmp c.in_ok-reached.reached o)) =
    subst (λ xs. IsTrue (contains nat_cmp c.loop-object.unreached o) ↔ (IsIn xs o × ¬ IsTrue (contains nat_cmp c.in_ok-reached.reached o))) e (c.loop-object.invariant o) in
    let at = unreached_is c.args.graph.now c.args.starts.now c.args.edges.now c.in_ok-reached.reached o (c.in_ok-reached.ensures o) in
    ((λ h. at.0 (inv.0 (sym (is o) ∙ h))), (λ g. is o ∙ inv.1 (at.1 g)))) c.listed.ensures.all
