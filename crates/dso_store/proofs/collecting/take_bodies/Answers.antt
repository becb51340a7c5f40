use Rattle.std.proofs.Common.{◌+◌, ◌≡◌, ◌∙◌, arith, drop, get_or, refl, sym, subst, ◌≤◌}
use Rattle.std.specs.Ordering.{nat_cmp}
use Rattle.dso_lookup.specs.Maps.{look}
use Rattle.dso_store.specs.Collecting.{count_there}
use Rattle.dso_store.proofs.Collected.{all_taken, counted_next, one_counted, taken_next}
use Rattle.dso_store.proofs.collecting.take_bodies.Goals as goal

pub loop-object-preserved : goal.loop-object-preserved
loop-object-preserved c =
    let i = c.loop-object.object-index in
    let object = get_or c.args.objects.now i 0 in
    let now = look nat_cmp c.loop-object.bodies in
    let next = look nat_cmp c.take_body-count.new.bodies in
    let more = c.take_body-count.result in
    let one : more ≤ 1 = subst (λ n. n ≤ 1) (sym c.take_body-count.ensures.count) (one_counted object now) in
    let step : more + count_there next (drop (i + 1) c.args.objects.now) ≡ count_there now (drop i c.args.objects.now) = counted_next c.args.objects.now i object more now next c.loop-object-test.true refl c.take_body-count.ensures.bodies c.take_body-count.ensures.count in
    record {
      bodies = taken_next c.args.objects.now i object now next c.loop-object-test.true refl c.take_body-count.ensures.bodies ∙ c.loop-object.invariant.bodies;
      counted = omega (arith, step, c.loop-object.invariant.counted);
      few = omega (arith, one, c.loop-object.invariant.few);
    }

pub returns-clause-bodies : goal.returns-clause-bodies
returns-clause-bodies c = sym (all_taken c.args.objects.now c.loop-object.object-index (look nat_cmp c.loop-object.bodies) c.loop-object-test.false) ∙ c.loop-object.invariant.bodies
