use Rattle.std.proofs.Common.{sym, subst}
use Rattle.dso_lint.specs.Listed.{AreListed, routines}
use Rattle.dso_lint.proofs.checker.bodies_of.Goals as goal

pub returns : goal.returns
returns c =
    let code = c.args.code.now in
    let listed : AreListed (routines code) c.as_slice.result.now = subst (AreListed (routines code)) (sym c.as_slice.ensures.value) c.in_ok-all.ensures in
    record { listed = c.in_ok-all.ensures; clean = c.in_ok-rows.ensures code listed c.len-methods.ensures; methods = c.len-methods.ensures }
