use Rattle.std.proofs.Common.{◌≡◌, ◌<◌, ◌+◌, arith, [], ◌∷◌, length, get_or, sym, subst, ap, ◌∙◌, length-append}
use Rattle.std.specs.Prelude.{None}
use Rattle.std.proofs.lemmas.Grind.{common_steps}
use Rattle.dso_lint.specs.Listed.{IsListed}
use Rattle.dso_lint.specs.Routines.{Routine}
use Rattle.dso_lint.proofs.cleanness.FirstRows.{RowsSoFar, rows_more}
use Rattle.dso_lint.proofs.rows.first_rows.Goals as goal

pub loop-number-preserved : goal.loop-number-preserved
loop-number-preserved c =
    let k = c.loop-number.number in
    let rows = c.loop-number.rows.items in
    let d : Routine = record { statements = []; params = 0; named = None; synced = None } in
    let few : k < length c.args.bodies.now = grind (arith, common_steps) in (
      ap length c.in_ok-push.ensures.items ∙ length-append rows (c.in_ok-row.row ∷ []) ∙ ap (λ n. n + 1) c.loop-number.invariant.0,
      λ all listed.
          let low : k < length all = omega (arith, few, listed.number) in
          subst (RowsSoFar all c.args.methods (k + 1)) (sym c.in_ok-push.ensures.items)
          (rows_more all c.args.methods k rows c.in_ok-row.row d low (c.loop-number.invariant.1 all listed) (c.in_ok-row.ensures (get_or all k d) (subst (λ l. IsListed l (get_or all k d)) (sym c.index-bodies-number.is) (listed.each k c.index-bodies-number.result d low)))),
    )

pub returns-clause-first : goal.returns-clause-first
returns-clause-first c all listed =
    let so = c.loop-number.invariant.1 all listed in
    let done : c.loop-number.number ≡ length c.args.bodies.now = grind (arith, common_steps) in
    record {
      number = so.number ∙ done ∙ listed.number;
      each = λ p body row low. so.each p body row (omega (arith, low, done, listed.number));
    }
