use Rattle.std.proofs.Common.{◌+◌, arith, sym, subst}
use Rattle.dso_lint.specs.Callers.{AreCallers}
use Rattle.dso_lint.proofs.tables.tables_of.Goals as goal

pub returns : goal.returns
returns c code listed same =
    let methods = c.args.methods in
    let callers = c.in_ok-callers.callers.items in
    let are : AreCallers code (methods + 5) methods callers = c.in_ok-callers.ensures code listed same in
    let slice : AreCallers code (methods + 5) methods c.as_slice.result.now = subst (AreCallers code (methods + 5) methods) (sym c.as_slice.ensures.value) are in
    record {
      callers = subst (λ n. AreCallers code (n + 5) n callers) same are;
      monitors = c.in_ok-monitors.ensures code listed same slice;
      names = λ i d low. absurd (omega (arith, low));
    }
