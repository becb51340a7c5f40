use Rattle.std.proofs.Common.{subst, sym, arith, ◌+◌}
use Rattle.std.proofs.lemmas.Int.{to_z-of_z}
use mir.Syntax.{w64}
use Rattle.dso_class.proofs.thread_ids.ClientCounts as laws
use Rattle.dso_class.proofs.thread_ids.ClientCounts.{IsCountSoFar}
use Rattle.dso_class.proofs.thread.threads_of_client.Goals as goal
use Rattle.dso_class.proofs.thread.threads_of_client.Goals.{then-from-number, else-from-number}

pub loop-body-init : goal.loop-body-init
loop-body-init c = laws.none_counted _ c.args.bodies.now

pub overflow_add-count : goal.overflow_add-count
overflow_add-count c = omega (arith, c.loop-body.invariant.few)

pub loop-body-preserved : goal.loop-body-preserved
loop-body-preserved c =
    let body = c.body-item.result in
    elim c.if-from-number.branch [
      | then-from-number w ↦
          subst (IsCountSoFar _ c.args.bodies.now (c.loop-body.body-index + 1)) (sym w.count-is)
          (laws.one_counted _ c.args.bodies.now c.loop-body.body-index body c.loop-body.count c.loop-body-test.true c.body-item.is c.loop-body.invariant
          (laws.same_passed body.thread.client c.from.result c.args.number c.from.ensures (omega arith) w.if-from-number.true))
      | else-from-number w ↦
          subst (IsCountSoFar _ c.args.bodies.now (c.loop-body.body-index + 1)) (sym w.count-is)
          (laws.none_more _ c.args.bodies.now c.loop-body.body-index body c.loop-body.count c.loop-body-test.true c.body-item.is c.loop-body.invariant
          (laws.other_passed body.thread.client c.from.result c.args.number c.from.ensures c.ranges.number w.if-from-number.false))
    ]

pub returns : goal.returns
returns c =
    laws.all_counted c.args.number c.args.bodies.now c.loop-body.body-index c.loop-body.count c.loop-body-test.false
    (subst (λ number. IsCountSoFar number c.args.bodies.now c.loop-body.body-index c.loop-body.count) (to_z-of_z w64 c.args.number c.ranges.number) c.loop-body.invariant)
