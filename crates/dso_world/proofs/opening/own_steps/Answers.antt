use Rattle.std.proofs.Common.{◌≡◌, ◌+◌, ◌∙◌, length, suc, arith}
use Rattle.dso_world.specs.WorldSteps.{settings_of}
use Rattle.dso_world.proofs.places.OwnSteps.{as_many, more_listed, one_own_more}
use Rattle.dso_world.proofs.opening.own_steps.Goals as goal

pub loop-number-preserved : goal.loop-number-preserved
loop-number-preserved c =
    let p = settings_of c.args.program.now in
    let number = c.loop-number.number in
    let before = c.loop-number.steps in
    let after = c.add_own.new.steps in
    let next : number + 1 ≡ suc number = omega arith in
    let listed = more_listed p number (number + 1) before.items after.items next c.loop-number.invariant.listed c.in_ok-add_own.ensures in
    let begin : c.len-begin.result ≡ length before.items = (let is = c.len-begin.ensures in let items = before.ok.0 in omega (arith, is, items)) in
    let end : c.len-end.result ≡ length after.items = (let is = c.len-end.ensures in let items = after.ok.0 in omega (arith, is, items)) in
    record {
      listed = listed;
      own = one_own_more p number (number + 1) c.loop-number.own.items c.push.new.self.items _ c.loop-number.invariant.own next (begin ∙ as_many before.items p number c.loop-number.invariant.listed)
          (end ∙ as_many after.items p (number + 1) listed) c.in_ok-push.ensures.items;
    }
