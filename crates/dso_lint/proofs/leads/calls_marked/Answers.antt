use Rattle.std.proofs.Common.{◌≡◌, ◌⊎◌, inl, inr, refl, arith, get_or, sym, subst, ap, ◌∙◌}
use Rattle.std.specs.Borrow.{Bor}
use Rattle.std.proofs.lemmas.Bool.{cases_eq}
use Rattle.std.proofs.lemmas.List.{get_or_default}
use Rattle.dso_machine.specs.declared.tree.Expr.{Expr}
use Rattle.dso_machine.specs.declared.tree.Expr.TheVariants as x
use Rattle.dso_lint.specs.Leads.{IsMarkedCall}
use Rattle.dso_lint.specs.Trees.{Uses}
use Rattle.dso_lint.proofs.leads.calls_marked.Goals as goal

pub returns-then-is_marked_call : goal.returns-then-is_marked_call
returns-then-is_marked_call c block lists =
    let e = c.e-item.result in
    let call : IsMarkedCall c.args.marked.now e.now = c.is_marked_call.ensures.0 c.if-is_marked_call.true in
    let uses : Uses block e.now = subst (λ (b : Bor Expr). Uses block b.now) (sym c.e-item.is) (lists.only c.loop-e.e-index e c.loop-e-test.true) in (
      λ q. record {
        method = call.has.method;
        calls = record { receiver = call.receiver; callees = call.callees; args = call.args; class = call.has.class; uses = subst (Uses block) call.is uses; may = call.has.may };
        is = call.has.is;
      },
      λ has. refl,
    )

pub loop-e-preserved : goal.loop-e-preserved
loop-e-preserved c k d low call = by (cases_eq k c.loop-e.e-index)
  where
    by : (k ≡ c.loop-e.e-index) ⊎ (k ≡ c.loop-e.e-index → ⊥) → ⊥
    by (inl same) =
        let expressions = c.args.expressions.now in
        let at : get_or expressions k d ≡ c.e-item.result = ap (λ n. get_or expressions n d) same ∙ get_or_default expressions c.loop-e.e-index d c.e-item.result c.loop-e-test.true ∙ sym c.e-item.is in
        let mine : IsMarkedCall c.args.marked.now c.e-item.result.now = subst (λ (b : Bor Expr). IsMarkedCall c.args.marked.now b.now) at call in
        cc (sym (c.is_marked_call.ensures.1 mine) ∙ c.if-is_marked_call.false)
    by (inr other) = c.loop-e.invariant k d (omega (arith, low, other)) call

pub returns : goal.returns
returns c block lists = (
  λ q. absurd (cc q),
  λ has.
      let at = lists.all (x.Call has.calls.receiver has.calls.callees has.calls.args) has.calls.uses in
      absurd (c.loop-e.invariant at.1.0 at.0 (omega (arith, at.1.1, c.loop-e-test.false)) (record {
        receiver = has.calls.receiver;
        callees = has.calls.callees;
        args = has.calls.args;
        is = ap (λ (b : Bor Expr). b.now) at.1.2 ∙ at.2;
        has = record { class = has.calls.class; method = has.method; may = has.calls.may; is = has.is };
      })),
)
