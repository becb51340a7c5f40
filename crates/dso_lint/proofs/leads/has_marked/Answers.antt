use Rattle.std.proofs.Common.{◌≡◌, ◌⊎◌, inl, inr, refl, arith, get_or, ℕ, sym, subst, ap, ◌∙◌}
use Rattle.std.specs.Prelude.{Contains}
use Rattle.std.proofs.lemmas.Bool.{cases_eq}
use Rattle.std.proofs.lemmas.List.{get_or_default}
use Rattle.dso_lint.specs.Leads.{Within}
use Rattle.dso_lint.proofs.leads.has_marked.Goals as goal

pub returns-then-is_marked : goal.returns-then-is_marked
returns-then-is_marked c =
    let callees = c.args.callees.now in
    let callee = get_or callees c.loop-callee.callee-index (0, 0) in
    let here : Contains callees (callee.0, callee.1) = (c.loop-callee.callee-index, c.loop-callee-test.true, get_or_default callees c.loop-callee.callee-index callee (0, 0) c.loop-callee-test.true) in
    (λ q. record { class = callee.0; method = callee.1; may = here; is = sym c.is_marked.ensures ∙ c.if-is_marked.true }, λ has. refl)

pub loop-callee-preserved : goal.loop-callee-preserved
loop-callee-preserved c k d low marked = by (cases_eq k c.loop-callee.callee-index)
  where
    by : (k ≡ c.loop-callee.callee-index) ⊎ (k ≡ c.loop-callee.callee-index → ⊥) → ⊥
    by (inl same) =
        let callees = c.args.callees.now in
        let callee = get_or callees c.loop-callee.callee-index (0, 0) in
        let at : get_or callees k d ≡ callee = ap (λ n. get_or callees n d) same ∙ get_or_default callees c.loop-callee.callee-index d (0, 0) c.loop-callee-test.true in
        let mine : Within c.args.marked.now callee.1 = subst (λ (p : ℕ × ℕ). Within c.args.marked.now p.1) at marked in
        cc (sym mine ∙ sym c.is_marked.ensures ∙ c.if-is_marked.false)
    by (inr other) = c.loop-callee.invariant k d (omega (arith, low, other)) marked

pub returns : goal.returns
returns c = (
  λ q. absurd (cc q),
  λ has.
      let mine : Within c.args.marked.now (get_or c.args.callees.now has.may.0 (has.class, has.method)).1 = subst (λ (p : ℕ × ℕ). Within c.args.marked.now p.1) (sym has.may.2) has.is in
      absurd (c.loop-callee.invariant has.may.0 (has.class, has.method) (omega (arith, has.may.1, c.loop-callee-test.false)) mine),
)
