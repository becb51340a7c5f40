use Rattle.std.proofs.Common.{◌≡◌, arith, List, length, get_or, sym, subst, ap, ◌∙◌}
use Rattle.dso_lint.specs.declared.listed.Listed.{Listed}
use Rattle.dso_lint.specs.declared.row.Row.{Row}
use Rattle.dso_lint.specs.CleanRows.{place_at}
use Rattle.dso_lint.specs.Judged.{choice_by}
use Rattle.dso_lint.specs.Listed.{AreListed, routines}
use Rattle.dso_lint.specs.Rows.{chosen_by}
use Rattle.dso_lint.proofs.judging.FoundBodies.{as_many, as_many_rows, found}
use Rattle.dso_lint.proofs.judging.Verdicts.{access_at, access_back, upgrades_at, upgrades_back}
use Rattle.dso_lint.proofs.checker.failed_rule.Goals as goal

pub bounds-all-number : goal.bounds-all-number
bounds-all-number c = omega (arith, c.requires.there, ap length c.as_slice-all.ensures.value)

pub bounds-rows-number : goal.bounds-rows-number
bounds-rows-number c = omega (arith, c.requires.there, ap length c.as_slice-rows.ensures.value, as_many_rows c.args.code.now c.args.bodies.now c.requires.bodies)

pub never_upgrades-requires : goal.never_upgrades-requires
never_upgrades-requires c = omega (arith, ap length c.as_slice-all.ensures.value, c.requires.bodies.methods, as_many c.args.code.now c.args.bodies.now c.requires.bodies)

pub returns-then-not-access-clause-judged : goal.returns-then-not-access-clause-judged
returns-then-not-access-clause-judged c = λ keeps.
    let code = c.args.code.now in
    let bodies = c.args.bodies.now in
    let number = c.args.number in
    let body = c.index-all-number.result in
    let row = c.index-rows-number.result in
    let here : get_or bodies.all.items number body ≡ body = ap (λ (all : List Listed). get_or all number body) (sym c.as_slice-all.ensures.value) ∙ sym c.index-all-number.is in
    let there : get_or bodies.rows.items number row ≡ row = ap (λ (rows : List Row). get_or rows number row) (sym c.as_slice-rows.ensures.value) ∙ sym c.index-rows-number.is in
    let one = found code bodies c.requires.bodies number body row c.requires.there here there in
    let access = c.in_ok-access.ensures one.routine one.listed in
    cc (sym (access.1 (access_back code (choice_by code bodies) (place_at (length code.methods) number) one.routine one.stands (chosen_by row) one.chosen keeps)) ∙ c.if-not-access.true)

pub returns-then-not-never-clause-judged : goal.returns-then-not-never-clause-judged
returns-then-not-never-clause-judged c =
    let code = c.args.code.now in
    let bodies = c.args.bodies.now in
    let number = c.args.number in
    let at = place_at (length code.methods) number in
    let choice = choice_by code bodies in
    let body = c.index-all-number.result in
    let row = c.index-rows-number.result in
    let here : get_or bodies.all.items number body ≡ body = ap (λ (all : List Listed). get_or all number body) (sym c.as_slice-all.ensures.value) ∙ sym c.index-all-number.is in
    let there : get_or bodies.rows.items number row ≡ row = ap (λ (rows : List Row). get_or rows number row) (sym c.as_slice-rows.ensures.value) ∙ sym c.index-rows-number.is in
    let one = found code bodies c.requires.bodies number body row c.requires.there here there in
    let access = c.in_ok-access.ensures one.routine one.listed in
    let listed : AreListed (routines code) c.as_slice-all.result.now = subst (AreListed (routines code)) (sym c.as_slice-all.ensures.value) c.requires.bodies.listed in
    let never = c.in_ok-never.ensures.is code one.routine listed c.requires.bodies.methods c.requires.tables one.listed in (
      access_at code choice at one.routine one.stands (chosen_by row) one.chosen (access.0 c.if-not-access.false),
      λ kept. cc (sym (never.1 (upgrades_back code choice at one.routine one.stands kept)) ∙ c.if-not-never.true),
    )

pub returns-clause-judged : goal.returns-clause-judged
returns-clause-judged c =
    let code = c.args.code.now in
    let bodies = c.args.bodies.now in
    let number = c.args.number in
    let at = place_at (length code.methods) number in
    let choice = choice_by code bodies in
    let body = c.index-all-number.result in
    let row = c.index-rows-number.result in
    let here : get_or bodies.all.items number body ≡ body = ap (λ (all : List Listed). get_or all number body) (sym c.as_slice-all.ensures.value) ∙ sym c.index-all-number.is in
    let there : get_or bodies.rows.items number row ≡ row = ap (λ (rows : List Row). get_or rows number row) (sym c.as_slice-rows.ensures.value) ∙ sym c.index-rows-number.is in
    let one = found code bodies c.requires.bodies number body row c.requires.there here there in
    let access = c.in_ok-access.ensures one.routine one.listed in
    let listed : AreListed (routines code) c.as_slice-all.result.now = subst (AreListed (routines code)) (sym c.as_slice-all.ensures.value) c.requires.bodies.listed in
    let never = c.in_ok-never.ensures.is code one.routine listed c.requires.bodies.methods c.requires.tables one.listed in
    record {
      access = access_at code choice at one.routine one.stands (chosen_by row) one.chosen (access.0 c.if-not-access.false);
      upgrade = upgrades_at code choice at one.routine one.stands (never.0 c.if-not-never.false);
    }

pub returns-then-not-never-clause-right : goal.returns-then-not-never-clause-right
returns-then-not-never-clause-right c =
    let code = c.args.code.now in
    let listed : AreListed (routines code) c.as_slice-all.result.now = subst (AreListed (routines code)) (sym c.as_slice-all.ensures.value) c.requires.bodies.listed in
    c.in_ok-never.ensures.right code listed c.requires.bodies.methods c.requires.tables

pub returns-clause-right : goal.returns-clause-right
returns-clause-right c =
    let code = c.args.code.now in
    let listed : AreListed (routines code) c.as_slice-all.result.now = subst (AreListed (routines code)) (sym c.as_slice-all.ensures.value) c.requires.bodies.listed in
    c.in_ok-never.ensures.right code listed c.requires.bodies.methods c.requires.tables
