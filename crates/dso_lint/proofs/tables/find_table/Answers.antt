use Rattle.std.proofs.Common.{sym, ap, ◌∙◌}
use Rattle.std.proofs.lemmas.List.{get_or_default}
use Rattle.dso_lint.specs.declared.tables.Named.{Named}
use Rattle.dso_lint.proofs.tables.find_table.Goals as goal

pub returns-then-is_of : goal.returns-then-is_of
returns-then-is_of c =
    let names = c.args.names.now in
    let place = c.loop-place.place in
    let one = c.index-names-place.result in
    record {
      there = c.loop-place-test.true;
      lock_is = λ d. ap (λ (named : Named). named.lock) (get_or_default names place d one c.loop-place-test.true ∙ sym c.index-names-place.is) ∙ c.is_of.ensures.0 c.if-is_of.true;
    }
