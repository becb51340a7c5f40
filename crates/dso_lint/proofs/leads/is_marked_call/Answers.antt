use Rattle.std.proofs.Common.{sym, subst, ◌∙◌}
use Rattle.dso_lint.specs.Leads.{HasMarked}
use Rattle.dso_lint.proofs.standing.Trees.{call_same}
use Rattle.dso_lint.proofs.leads.is_marked_call.Goals as goal

pub returns-in-Call : goal.returns-in-Call
returns-in-Call c = (
  λ q. record { receiver = _; callees = c.in-Call.callees; args = _; is = c.in-Call.is; has = subst (HasMarked c.args.marked.now) (c.as_slice.ensures ∙ c.get.ensures) (c.has_marked.ensures.0 q) },
  λ marked.
      let same = call_same _ marked.receiver c.in-Call.callees marked.callees _ marked.args (sym c.in-Call.is ∙ marked.is) in
      c.has_marked.ensures.1 (subst (HasMarked c.args.marked.now) (sym same.1 ∙ sym (c.as_slice.ensures ∙ c.get.ensures)) marked.has),
)
