use Rattle.std.proofs.Common.{◌≡◌, ◌<◌, [], arith, get_or, length, sym, subst}
use Rattle.std.proofs.lemmas.Grind.{common_steps}
use Rattle.dso_lint.specs.CleanRows.{AreBelow}
use Rattle.dso_lint.specs.Listed.{IsListed}
use Rattle.dso_lint.proofs.cleanness.Looks.{goes_last, looking_first, looking_less, looking_next, taken_low}
use Rattle.dso_lint.proofs.rows.clean_rows.Goals as goal

pub loop-number-init : goal.loop-number-init
loop-number-init c =
    let below : AreBelow (length c.args.bodies.now) c.in_ok-waiting.waiting.items = grind (arith, common_steps) in
    looking_first c.args.bodies.now c.args.methods c.in_ok-rows.rows.items c.in_ok-waiting.waiting.items c.in_ok-rows.ensures.number c.in_ok-rows.ensures.first below

pub offset_bounds-bodies-number : goal.offset_bounds-bodies-number
offset_bounds-bodies-number c =
    let low = taken_low c.args.bodies.now c.args.methods c.loop-number.rows.items c.loop-number.waiting.items c.pop.new.self.items c.in-Some.number c.in-Some.ensures.items c.loop-number.invariant in
    grind (arith, common_steps, low)

pub bounds-bodies-number : goal.bounds-bodies-number
bounds-bodies-number c = taken_low c.args.bodies.now c.args.methods c.loop-number.rows.items c.loop-number.waiting.items c.pop.new.self.items c.in-Some.number c.in-Some.ensures.items c.loop-number.invariant

pub look-requires : goal.look-requires
look-requires c =
    let low = taken_low c.args.bodies.now c.args.methods c.loop-number.rows.items c.loop-number.waiting.items c.pop.new.self.items c.in-Some.number c.in-Some.ensures.items c.loop-number.invariant in
    subst (λ n. c.in-Some.number < n) (sym c.loop-number.invariant.number) low

pub loop-number-smaller : goal.loop-number-smaller
loop-number-smaller c = looking_less c.args.bodies.now c.args.methods c.loop-number.rows.items c.look.new.rows.items c.loop-number.waiting.items c.pop.new.self.items c.look.new.waiting.items c.in-Some.number c.in-Some.ensures.items c.loop-number.invariant c.in_ok-look.ensures.wait

pub loop-number-preserved : goal.loop-number-preserved
loop-number-preserved c =
    let k = c.in-Some.number in
    let one = c.index-bodies-number.result in
    let here : get_or c.args.bodies.now k one ≡ one = sym c.index-bodies-number.is in
    looking_next c.args.bodies.now c.args.methods c.loop-number.rows.items c.look.new.rows.items c.loop-number.waiting.items c.pop.new.self.items c.look.new.waiting.items k c.in-Some.ensures.items c.loop-number.invariant one c.in_ok-look.ensures.wait
    (λ body is. c.in_ok-look.ensures.looks body (subst (λ listed. IsListed listed body) here is))

pub returns : goal.returns
returns c code listed same =
    let none : c.loop-number.waiting.items ≡ [] = grind (arith, common_steps) in
    goes_last code c.loop-number.rows.items c.loop-number.waiting.items none (c.loop-number.invariant.goes code listed same)
