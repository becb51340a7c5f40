use Rattle.std.proofs.Common.{◌≡◌, ◌+◌, refl, arith, length, sym, subst}
use Rattle.std.specs.Prelude.{All}
use Rattle.std.proofs.lemmas.Grind.{common_steps}
use Rattle.std.proofs.lemmas.List.Elements.{All-push}
use Rattle.dso_lint.specs.declared.tables.Named.{Named}
use Rattle.dso_lint.specs.Callers.{AreCallers}
use Rattle.dso_lint.specs.Tables.{IsOfName, IsTableOf}
use Rattle.dso_lint.proofs.upgrading.NamedTables.{table_pushed}
use Rattle.dso_lint.proofs.tables.Tables.add_table.Goals as goal

pub returns-clause-place : goal.returns-clause-place
returns-clause-place c =
    let named : Named = record { lock = c.args.lock; leading = c.in_ok-leading.leading } in
    let place = c.len-place.result in
    let last : place ≡ length c.args.self.now.names.items = grind (arith, common_steps) in
    subst (IsTableOf c.args.lock place) (sym c.in_ok-push.ensures.items) (table_pushed c.args.lock place c.args.self.now.names.items named refl last)

pub returns-clause-right : goal.returns-clause-right
returns-clause-right c code listed same are =
    let named : Named = record { lock = c.args.lock; leading = c.in_ok-leading.leading } in
    let methods = c.args.methods in
    let callers = c.args.self.now.callers.items in
    let mine : AreCallers code (methods + 5) methods callers = subst (λ n. AreCallers code (n + 5) n callers) (sym same) are.callers in
    let slice : AreCallers code (methods + 5) methods c.as_slice.result.now = subst (AreCallers code (methods + 5) methods) (sym c.as_slice.ensures.value) mine in
    let takers : IsOfName code named = c.in_ok-leading.ensures code listed same slice in
    record {
      callers = are.callers;
      monitors = are.monitors;
      names = subst (All (IsOfName code)) (sym c.in_ok-push.ensures.items) (All-push (IsOfName code) c.args.self.now.names.items named are.names takers);
    }
