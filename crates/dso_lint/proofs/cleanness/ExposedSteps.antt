-- Which methods a body exposes: those that a call in it marks.
use Rattle.std.proofs.Common.{◌⊎◌, inl, inr, refl, ℕ, ◌<◌, sym, subst, ◌∙◌}
use Rattle.std.specs.Prelude.{Some}
use Rattle.std.specs.Borrow.{Bor}
use Rattle.dso_machine.specs.declared.tree.Expr.TheVariants as x
use Rattle.dso_lint.specs.declared.marks.Marks.{Marks}
use Rattle.dso_lint.specs.declared.row.Row.{Row}
use Rattle.dso_lint.specs.CleanRows.{IsExposed, MarksExposed}
use Rattle.dso_lint.specs.Marked.{HasCallTo, IsFresh, IsMarked, MarksMore}
use Rattle.dso_lint.specs.Routines.{Routine}
use Rattle.dso_lint.specs.Trees.{Uses}

module _ (body : Routine) (b : Bor Row) where
  of_call : (m : ℕ) → HasCallTo (Some b) body.statements m → IsExposed body b.now m
  of_call m call = record {
    receiver = call.2.receiver;
    callees = call.2.callees;
    args = call.2.args;
    class = call.2.class;
    uses = subst (Uses body.statements) call.2.is call.1;
    may = call.2.may;
    unclean = call.2.counts;
  }

  to_call : (m : ℕ) → IsExposed body b.now m → HasCallTo (Some b) body.statements m
  to_call m is = (
    x.Call is.receiver is.callees is.args,
    is.uses,
    record {
      receiver = is.receiver;
      callees = is.callees;
      args = is.args;
      class = is.class;
      is = refl;
      may = is.may;
      counts = is.unclean;
    },
  )

  -- where none was marked before, the calls mark the exposed
  pub exposed_all : (size : ℕ) (old new : Marks) → IsFresh size old → MarksMore (HasCallTo (Some b) body.statements) old new → MarksExposed body b.now size new
  exposed_all size old new fresh more = record {
    number = more.size ∙ fresh.number;
    only = λ m is. only m (more.only m is);
    all = λ m few is. more.added m (subst (λ s. m < s) (sym fresh.number) few) (to_call m is);
  }
    where
      only : (m : ℕ) → IsMarked old m ⊎ HasCallTo (Some b) body.statements m → IsExposed body b.now m
      only m (inl was) = absurd (fresh.unmarked m was)
      only m (inr call) = of_call m call
