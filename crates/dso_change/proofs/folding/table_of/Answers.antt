use Rattle.std.proofs.Common.{◌≡◌, ◌<◌, ◌-◌, arith, length, suc, subst, drop, ◌∙◌}
use Rattle.std.specs.Ordering.{nat_cmp}
use Rattle.dso_base.specs.Block.{body_in}
use Rattle.dso_lookup.specs.Maps.{look}
use Rattle.dso_change.proofs.Gathered.{one_found}
use Rattle.dso_change.proofs.folding.table_of.Goals as goal

pub loop-at-preserved : goal.loop-at-preserved
loop-at-preserved c =
    let most = c.loop-at.invariant.0 in
    let more = c.loop-at-test.true in
    let next : c.loop-at.at ≡ suc (c.loop-at.at - 1) = omega arith in
    let within : c.loop-at.at - 1 < length c.args.bodies.now = omega arith in (
      omega arith,
      one_found (look nat_cmp c.loop-at.table) (look nat_cmp c.put.new.map) c.args.bodies.now (c.loop-at.at - 1) c.index-bodies-at.result c.in_ok-body.body within (c.in_ok-body.ensures ∙ c.index-bodies-at.is) c.in_ok-put.ensures
          (subst (λ n. look nat_cmp c.loop-at.table ≡ (λ o. body_in o (drop n c.args.bodies.now))) next c.loop-at.invariant.1),
    )

pub returns : goal.returns
returns c =
    let least = c.loop-at-test.false in
    let none : c.loop-at.at ≡ 0 = omega arith in
    subst (λ n. look nat_cmp c.loop-at.table ≡ (λ o. body_in o (drop n c.args.bodies.now))) none c.loop-at.invariant.1
